use Rattle.handoff.specs.Seats.{IsSameSeat}
use Rattle.workers.proofs.worker.serve_own.Given as goal

abbrev pub invariant-loop-at : goal.invariant-loop-at
invariant-loop-at g l = IsSameSeat l.fn.post.seat l.post.seat
