use Rattle.std.proofs.Common.{◌≡◌, length}
use Rattle.stored_world.proofs.Fresh.{AreZeroDisks}
use Rattle.stored_world.proofs.stored.StoredWorld.new.Given as goal

abbrev pub invariant-loop-unit_index : goal.invariant-loop-unit_index
invariant-loop-unit_index l =
    record {
      count : length l.disks.items ≡ l.unit_index;
      storages : length l.hosted.items ≡ l.unit_index;
      are : AreZeroDisks l.config.units.items l.caches l.disks.items l.hosted.items;
    }
