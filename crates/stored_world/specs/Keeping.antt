-- What leaves the storages of a device's disks as they are, and their capacities.
use Rattle.std.specs.Prelude.{ℕ, ◌≡◌, Bool, true, false, Some, slice_get}
use Rattle.unit_model.specs.Contents.{capacity_of}
use Rattle.unit_model.specs.Unit.{PlainUnit}
use Rattle.device_model.specs.World.{PlainWorld}
use Rattle.device_model.specs.Events.{Event}

-- whether an event is neither a deal of a host nor a resize of its operator
abbrev pub is_served : Event → Bool
is_served (Event.Deal unit_index d) = false
is_served (Event.Resize unit_index blocks) = false
is_served e = true

-- a unit has the storage of another, and as many blocks
pub record HasDiskOf (u v : PlainUnit) : Type 0 where
  pub storage : v.storage ≡ u.storage
  pub capacity : capacity_of v.opening v.steps ≡ capacity_of u.opening u.steps

-- each unit has that of the unit that stood at its index
abbrev pub KeepsDisks : PlainWorld → PlainWorld → Type 0
KeepsDisks w w' = (k : ℕ) (v : PlainUnit) → slice_get w'.units k ≡ Some v → (u : PlainUnit) × (slice_get w.units k ≡ Some u) × HasDiskOf u v
