use Rattle.std.proofs.Common.{◌≡◌, ◌∙◌, ◌≤◌, ◌+◌, ◌-◌, ℕ, refl, sym, subst, arith}
use Rattle.device_steps.specs.Apart.{standing, Stored}
use Rattle.device_steps.specs.Inner.Cursors.{NoneBefore}
use Rattle.world.specs.Inner.Rounds.{RowSettles}
use Rattle.world.proofs.Rounds.{RowSoFar, row_none, row_next, row_serves, row_settles_none, row_settles_next}
use Rattle.world.proofs.live_world.LiveWorld.serve_row.Goals as goal

pub loop-taken-init : goal.loop-taken-init
loop-taken-init g c =
    let x = c.args.self.now in
    let stored = Stored g.M.Memory.stored g.M.Memory.storing in
    record {
      rows = row_none g.M.Memory.shared g.M.Memory.begins g.M.Memory.may_be stored c.args.number x;
      settled = row_settles_none stored c.args.number g.M.Memory.shared (g.M.Memory.extent x.memory) x;
      size = refl;
      before = c.requires.before;
      few = omega arith;
    }

pub round_on-round-requires : goal.round_on-round-requires
round_on-round-requires g c =
    record {
      most = omega (arith, c.loop-taken.invariant.few);
      number = c.requires.number;
      before = c.loop-taken.invariant.before;
    }

pub loop-taken-preserved : goal.loop-taken-preserved
loop-taken-preserved g c =
    let inv = c.loop-taken.invariant in
    let one = c.round_on-round in
    let x = c.args.self.now in
    let stored = Stored g.M.Memory.stored g.M.Memory.storing in
    let shared = g.M.Memory.shared in
    let (left, point) = c.ends_row.ensures c.if-ends_row.false in
    let (k, is) = point in
    record {
      rows = row_next shared g.M.Memory.begins g.M.Memory.may_be stored c.args.number x c.loop-taken.self one.new.self
          c.loop-taken.steps one.result.steps c.loop-taken._taken (omega (arith, c.loop-taken-test.true)) inv.rows
          one.ensures.serves;
      settled = row_settles_next stored c.args.number shared (g.M.Memory.extent x.memory) x c.loop-taken.self one.new.self
          c.loop-taken.steps one.result.steps inv.settled
          (subst (λ (n : ℕ). RowSettles stored c.args.number shared n c.loop-taken.self one.result.steps one.new.self) inv.size
          one.ensures.settles);
      size = one.ensures.size ∙ inv.size;
      before = λ m. subst (λ p. NoneBefore p (standing shared m one.new.self.device)) is (one.ensures.before m);
      few = omega (arith, inv.few, one.ensures.few, left);
    }

pub returns-then-ends_row-clause-size : goal.returns-then-ends_row-clause-size
returns-then-ends_row-clause-size g c = c.round_on-round.ensures.size ∙ c.loop-taken.invariant.size

pub returns-then-ends_row-clause-serves : goal.returns-then-ends_row-clause-serves
returns-then-ends_row-clause-serves g c =
    let inv = c.loop-taken.invariant in
    let one = c.round_on-round in
    let x = c.args.self.now in
    let stored = Stored g.M.Memory.stored g.M.Memory.storing in
    row_serves g.M.Memory.shared g.M.Memory.begins g.M.Memory.may_be stored c.args.number x one.new.self
    (c.loop-taken.steps + one.result.steps) (c.loop-taken._taken + 1)
    (row_next g.M.Memory.shared g.M.Memory.begins g.M.Memory.may_be stored c.args.number x c.loop-taken.self one.new.self
    c.loop-taken.steps one.result.steps c.loop-taken._taken (omega (arith, c.loop-taken-test.true)) inv.rows
    one.ensures.serves)

pub returns-then-ends_row-clause-settles : goal.returns-then-ends_row-clause-settles
returns-then-ends_row-clause-settles g c =
    let inv = c.loop-taken.invariant in
    let one = c.round_on-round in
    let x = c.args.self.now in
    let stored = Stored g.M.Memory.stored g.M.Memory.storing in
    row_settles_next stored c.args.number g.M.Memory.shared (g.M.Memory.extent x.memory) x c.loop-taken.self one.new.self
    c.loop-taken.steps one.result.steps inv.settled
    (subst (λ (n : ℕ). RowSettles stored c.args.number g.M.Memory.shared n c.loop-taken.self one.result.steps one.new.self)
    inv.size one.ensures.settles)

pub returns-clause-serves : goal.returns-clause-serves
returns-clause-serves g c =
    row_serves g.M.Memory.shared g.M.Memory.begins g.M.Memory.may_be (Stored g.M.Memory.stored g.M.Memory.storing)
    c.args.number c.args.self.now c.loop-taken.self c.loop-taken.steps c.loop-taken._taken c.loop-taken.invariant.rows

pub returns-clause-settles : goal.returns-clause-settles
returns-clause-settles g c = c.loop-taken.invariant.settled
