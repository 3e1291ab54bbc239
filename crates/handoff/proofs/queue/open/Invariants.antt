use Rattle.std.proofs.Common.{◌≡◌, ◌≤◌, length}
use Rattle.std.specs.Vec.{vec_capacity}
use Rattle.handoff.specs.Inner.Lanes.{HaveCapacity, at_each, lead}
use Rattle.handoff.proofs.queue.open.Given as goal

abbrev pub invariant-loop-number : goal.invariant-loop-number
invariant-loop-number l = record {
  count : length l.lanes.items ≡ l._number;
  capacity : HaveCapacity l.capacity l.lanes.items;
  chiefs : l.chiefs.items ≡ at_each (lead 1) l.lanes.items;
  room : l.count ≤ vec_capacity l.lanes;
  room_too : l.count ≤ vec_capacity l.chiefs;
}
