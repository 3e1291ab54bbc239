-- Rests on `specs/Disks.antt`; no promise rests on it.
use Rattle.std.specs.Prelude.{ℕ, ◌≡◌, Bool, List, slice_get, Option, Some}
use Rattle.c_calls.specs.Disks.{Fits}
use Rattle.backed_store.specs.declared.disk.Disk.{Disk as UnitDisk}
use Rattle.request_intake.specs.declared.inventory.UnitSpec.{UnitSpec}

-- each unit has one
abbrev pub Fit : Bool → List UnitSpec → List (Option UnitDisk) → Type 0
Fit is_live units disks = (k : ℕ) (u : UnitSpec) (disk : Option UnitDisk) → slice_get units k ≡ Some u → slice_get disks k ≡ Some disk
    → Fits is_live u disk
