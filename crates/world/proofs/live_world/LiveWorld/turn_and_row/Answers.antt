use Rattle.std.proofs.Common.{◌≡◌, ◌∙◌, ◌+◌, ℕ, refl, sym, subst, inl, arith}
use Rattle.device_steps.specs.Apart.{Stored}
use Rattle.device_steps.specs.Settling.{asks}
use Rattle.world.specs.Inner.Rounds.{SettledLive, RowBehind}
use Rattle.world.proofs.Rounds.{turn_row}
use Rattle.world.proofs.live_world.LiveWorld.turn_and_row.Goals as goal

pub with_row-requires : goal.with_row-requires
with_row-requires g c =
    let t = rw c.in-Ok-Some.field-0-is at c.in-Ok-Some.ensures.turns in record { few = t.few; before = t.before }

pub returns-in-Ok-Some-clause-turns : goal.returns-in-Ok-Some-clause-turns
returns-in-Ok-Some-clause-turns g c =
    let t = rw c.in-Ok-Some.field-0-is at c.in-Ok-Some.ensures.turns in
    let row = c.with_row.ensures in
    record {
      some = omega (arith, t.some, row.some);
      few = row.few;
      serves = turn_row g.M.Memory.shared g.M.Memory.begins g.M.Memory.may_be (Stored g.M.Memory.stored g.M.Memory.storing)
          (asks c.args.queues) (g.M.Memory.extent c.turn.new.self.memory) c.args.self.now c.turn.new.self c.with_row.new.self
          c.in-Ok-Some.served.steps c.with_row.result.steps (inl (t.begun, t.begins_so, t.none, t.serves)) row.row;
      before = row.before;
    }

pub returns-in-Ok-Some-clause-settles : goal.returns-in-Ok-Some-clause-settles
returns-in-Ok-Some-clause-settles g c =
    let shared = g.M.Memory.shared in
    let asked = asks c.args.queues in
    let stored = Stored g.M.Memory.stored g.M.Memory.storing in
    let next = rw c.in-Ok-Some.field-0-is at c.in-Ok-Some.ensures.settles in
    let row = subst (λ (n : ℕ).
    RowBehind shared g.M.Memory.begins g.M.Memory.may_be stored asked n c.turn.new.self c.in-Ok-Some.served.steps
    c.with_row.result.steps c.with_row.new.self) c.in-Ok-Some.ensures.size c.with_row.ensures.row in
    λ first w n h. row.settles first w n (next asked (λ q on. on) first w n h)
