use Rattle.std.proofs.Common.{◌≡◌, subst, arith}
use Rattle.device_steps.specs.Apart.{standing, Stored}
use Rattle.device_steps.specs.Settling.{asks}
use Rattle.device_steps.specs.Inner.Cursors.{NoneBefore}
use Rattle.world.specs.Inner.Rounds.{IsRowOf}
use Rattle.world.proofs.Rounds.{behind_row}
use Rattle.world.proofs.live_world.LiveWorld.with_row.Goals as goal

pub serve_row-row-requires : goal.serve_row-row-requires
serve_row-row-requires g c =
    let row : IsRowOf (asks c.args.queues) c.args.served.next c.in-Some.number = c.in-Some.ensures in
    let (k, is) = row.place in
    record {
      most = omega (arith, c.if-served-most.false);
      number = row.few;
      before = λ m.
          subst (λ p. NoneBefore p (standing g.M.Memory.shared m c.args.self.now.device)) is (c.requires.before m);
    }

pub returns-clause-row : goal.returns-clause-row
returns-clause-row g c =
    let row : IsRowOf (asks c.args.queues) c.args.served.next c.in-Some.number = c.in-Some.ensures in
    behind_row g.M.Memory.shared g.M.Memory.begins g.M.Memory.may_be (Stored g.M.Memory.stored g.M.Memory.storing)
    (asks c.args.queues) (g.M.Memory.extent c.args.self.now.memory) c.in-Some.number c.args.self.now c.serve_row-row.new.self
    c.args.served.steps c.serve_row-row.result.steps row.on c.serve_row-row.ensures.serves c.serve_row-row.ensures.settles
