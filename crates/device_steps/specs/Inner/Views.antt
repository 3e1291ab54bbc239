-- Rests on `specs/Views.antt`; no promise rests on it.
use Rattle.std.specs.Prelude.{ℕ, ◌≡◌, List, Option, Some, None, slice_get}
use Rattle.unit_model.specs.Unit.{PlainUnit}
use Rattle.device_steps.specs.Views.{unit_of}

-- that of the address which `unit_of` is stands at the index, or there is none
abbrev pub FindsUnit : List PlainUnit → ℕ → ℕ → Option ℕ → Type 0
FindsUnit units target lun (Some unit_index) =
    (u : PlainUnit) × (slice_get units unit_index ≡ Some u) × (unit_of units target lun ≡ Some u)
FindsUnit units target lun None = unit_of units target lun ≡ None
