use Rattle.std.proofs.Common.{◌≡◌, ◌<◌, ℕ, Some}
use Rattle.std.specs.Prelude.{slice_get}
use Rattle.backed_store.specs.declared.disk.Disk.{Disk}
use Rattle.device_steps.specs.Opening.{IsDiskFor}
use Rattle.request_intake.specs.declared.inventory.UnitSpec.{UnitSpec}
use Rattle.device_steps.proofs.opening.are_disks_for.Given as goal

abbrev pub invariant-loop-number : goal.invariant-loop-number
invariant-loop-number l =
    record {
      each : (k : ℕ) (u : UnitSpec) (disk : Disk) → k < l.number → slice_get l.wanted k ≡ Some u
          → slice_get l.disks k ≡ Some disk → IsDiskFor u disk;
    }
