use Rattle.std.specs.Prelude.{◌≡◌}
use Rattle.worker_steps.proofs.in_a_row.make_room_behind.Given as goal

abbrev pub invariant-loop : goal.invariant-loop
invariant-loop g l = l.post.seat ≡ l.fn.post.seat
