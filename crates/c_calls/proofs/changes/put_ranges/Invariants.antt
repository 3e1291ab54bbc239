use Rattle.std.proofs.Common.{◌≡◌, length, map, take}
use Rattle.c_calls.specs.Changes.{range_of}
use Rattle.c_calls.proofs.changes.put_ranges.Given as goal

abbrev pub invariant-loop-k : goal.invariant-loop-k
invariant-loop-k l =
    record {
      put : map range_of (take l.k l.room) ≡ take l.k l.ranges;
      same : length l.room ≡ length l.fn.room;
      all : l.k-end ≡ length l.ranges;
    }
