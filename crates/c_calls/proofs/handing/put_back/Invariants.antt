use Rattle.std.proofs.Common.{◌≡◌, ◌++◌, length, Some, None, List}
use Rattle.std.specs.Prelude.{map, Option}
use Rattle.backed_store.specs.declared.disk.Disk.{Disk as UnitDisk}
use Rattle.c_calls.specs.Kept.{disks_at}
use Rattle.c_calls.proofs.handing.put_back.Given as goal

abbrev pub decreases-loop-store : goal.decreases-loop-store
decreases-loop-store l = length l.stores.items

abbrev pub invariant-loop-store : goal.invariant-loop-store
invariant-loop-store l =
    record {
      done : List UnitDisk;
      split : l.fn.stores.items ≡ l.stores.items ++ done;
      are : disks_at l.disks ≡ map (λ s. None) l.stores.items ++ map (λ s. Some s) done;
      boxes : length l.boxes.items ≡ length l.stores.items;
    }
