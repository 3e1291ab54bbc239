use Rattle.std.specs.Prelude.{◌<◌}
use Rattle.handoff.specs.Seats.{IsSameSeat}
use Rattle.workers.proofs.worker.work.Given as goal

abbrev pub invariant-loop : goal.invariant-loop
invariant-loop g l = IsSameSeat l.fn.worker.post.seat l.post.seat × (0 < l.workers)
