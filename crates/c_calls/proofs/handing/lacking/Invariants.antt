use Rattle.std.proofs.Common.{◌≡◌, ◌<◌, ℕ, length, Some}
use Rattle.std.specs.Prelude.{slice_get, Option}
use Rattle.backed_store.specs.declared.disk.Disk.{Disk as UnitDisk}
use Rattle.request_intake.specs.declared.inventory.UnitSpec.{UnitSpec}
use Rattle.c_calls.specs.Disks.{Fits}
use Rattle.c_calls.specs.Kept.{disks_at}
use Rattle.c_calls.proofs.handing.lacking.Given as goal

abbrev pub invariant-loop-unit_index : goal.invariant-loop-unit_index
invariant-loop-unit_index l =
    record {
      same : disks_at l.disks ≡ disks_at l.fn.disks;
      fit : (k : ℕ) (u : UnitSpec) (disk : Option UnitDisk) → k < l.unit_index → slice_get l.units k ≡ Some u
          → slice_get (disks_at l.fn.disks) k ≡ Some disk → Fits l.is_live u disk;
      all : l.unit_index-end ≡ length l.disks;
    }
