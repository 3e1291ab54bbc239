use Rattle.std.specs.Prelude.{◌≡◌}
use Rattle.worker_steps.proofs.requests.serve_queue.Given as goal

abbrev pub invariant-loop : goal.invariant-loop
invariant-loop g l = l.post.seat ≡ l.fn.post.seat
