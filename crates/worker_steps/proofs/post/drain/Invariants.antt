use Rattle.handoff.specs.Seats.{IsSameSeat}
use Rattle.worker_steps.proofs.post.drain.Given as goal

abbrev pub invariant-loop : goal.invariant-loop
invariant-loop g l = IsSameSeat l.fn.post.seat l.post.seat
