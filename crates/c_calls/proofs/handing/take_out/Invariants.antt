use Rattle.std.proofs.Common.{◌≡◌, ◌≤◌, length}
use Rattle.std.specs.Vec.{vec_capacity}
use Rattle.c_calls.specs.Kept.{disks_at}
use Rattle.c_calls.proofs.Taking.{Taken}
use Rattle.c_calls.proofs.handing.take_out.Given as goal

abbrev pub invariant-loop-unit_index : goal.invariant-loop-unit_index
invariant-loop-unit_index l =
    record {
      taken : Taken (disks_at l.fn.disks) (disks_at l.disks) l.stores.items;
      many : length l.stores.items ≡ l.unit_index;
      all : l.unit_index-end ≡ length l.disks;
      room : length l.disks ≤ vec_capacity l.stores;
    }
