use Rattle.std.proofs.Common.{◌≡◌, ℕ, ◌+◌, ◌<◌, ◌≤◌, Some, length}
use Rattle.std.specs.Prelude.{slice_get}
use Rattle.std.specs.Vec.{vec_capacity}
use Rattle.handoff.specs.Inner.Rule.{newcomer}
use Rattle.handoff.specs.Ends.{PlainLane}
use Rattle.handoff.specs.Inner.Lanes.{end_of, lead}
use Rattle.handoff.proofs.queue.another.Given as goal

abbrev pub invariant-loop-at : goal.invariant-loop-at
invariant-loop-at l = record {
  count : length l.ends.items ≡ l.at;
  many : length l.chiefs.items ≡ length l.lanes;
  room : length l.lanes ≤ vec_capacity l.ends;
  made : (q : ℕ) (x : PlainLane) → q < l.at → slice_get l.lanes q ≡ Some x
      → slice_get l.ends.items q ≡ Some (end_of (newcomer (lead l.number)) x);
  done : (q : ℕ) (x : PlainLane) → q < l.at → slice_get l.lanes q ≡ Some x
      → slice_get l.chiefs.items q ≡ Some (end_of (lead (l.number + 1)) x);
  todo : (q : ℕ) (x : PlainLane) → l.at ≤ q → slice_get l.lanes q ≡ Some x
      → slice_get l.chiefs.items q ≡ Some (end_of (lead l.number) x);
}
