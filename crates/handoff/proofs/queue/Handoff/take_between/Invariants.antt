use Rattle.std.proofs.Common.{◌≡◌, ℕ, ◌<◌, ◌≤◌}
use Rattle.handoff.specs.Inner.Seats.{WasEmpty}
use Rattle.handoff.proofs.queue.Handoff.take_between.Given as goal

abbrev pub invariant-loop-at : goal.invariant-loop-at
invariant-loop-at g l = record {
  same : l.seat ≡ l.fn.seat;
  low : l.fn.from ≤ l.at;
  empty : (q : ℕ) → l.fn.from ≤ q → q < l.at → WasEmpty l.fn.seat q;
}
