-- At which address a unit stands, and of which profile its commands are.
use Rattle.std.specs.Prelude.{ℕ, ◌≡◌, Some, slice_get}
use Rattle.request_intake.specs.Inventory.{PlainInventory}
use Rattle.unit_model.specs.Receipts.{unit_address}
use Rattle.unit_model.specs.Unit.{PlainUnit}

-- the unit has the address that stands in the inventory at this index, and the profile: so a command is answered as that of the
-- profile by which it was decoded
abbrev pub IsAddressed : PlainInventory → ℕ → PlainUnit → Type 0
IsAddressed inventory unit_index u =
    (slice_get inventory.addresses unit_index ≡ Some (unit_address u.opening))
    × (slice_get inventory.profiles unit_index ≡ Some u.opening.profile)
