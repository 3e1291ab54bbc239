-- What the operator's resize of a unit does.
use Rattle.std.specs.Prelude.{ℕ, ◌≡◌, ◌<◌, ◌++◌, Bool, true, false, List, Some, Result, Ok, Err}
use Rattle.scsi_codec.specs.declared.event_queue.Event.{Event as EventRecord}
use Rattle.request_intake.specs.Inventory.{PlainInventory}
use Rattle.unit_model.specs.Unit.{PlainUnit}
use Rattle.unit_model.specs.Contents.{is_capacity}
use Rattle.phases.specs.declared.resizing.ResizeFault.{ResizeFault}
use Rattle.phases.specs.declared.resizing.ResizeFault.TheVariants as fault
use Rattle.device_model.specs.Addressed.{IsAddressed}
use Rattle.device_model.specs.Transitions.{Transition}
use Rattle.device_model.specs.Event.Resize.{change_reports}
use Rattle.phases.specs.DoingUnit.{DoesUnit}

-- a resize is refused where the unit is another than the one at this index of the inventory, else where no unit may have
-- so many blocks, and memory only where one may
abbrev pub RefusesResize : PlainInventory → ℕ → PlainUnit → ℕ → ResizeFault → Type 0
RefusesResize inventory unit_index u blocks fault.WrongUnit = IsAddressed inventory unit_index u → ⊥
RefusesResize inventory unit_index u blocks fault.BadCapacity = IsAddressed inventory unit_index u × (is_capacity blocks ≡ false)
RefusesResize inventory unit_index u blocks fault.NoMemory = IsAddressed inventory unit_index u × (is_capacity blocks ≡ true)

-- the unit at this index of the inventory has so many blocks, and the event waits where the driver is told; or no event may
-- name the unit's LUN; or it is refused, and nothing changed
abbrev pub ResizesUnit : PlainInventory → ℕ → PlainUnit → ℕ → Bool → List EventRecord → Result Bool ResizeFault → PlainUnit
    → List EventRecord → Type 0
ResizesUnit inventory unit_index u blocks told w (Ok true) u' w' =
    IsAddressed inventory unit_index u × DoesUnit (Transition.Resize unit_index blocks) u u'
    × (w' ≡ w ++ change_reports told (Some u))
ResizesUnit inventory unit_index u blocks told w (Ok false) u' w' =
    IsAddressed inventory unit_index u × (u' ≡ u) × (w' ≡ w) × (u.opening.lun < 16384 → ⊥)
ResizesUnit inventory unit_index u blocks told w (Err fault) u' w' =
    (u' ≡ u) × (w' ≡ w) × RefusesResize inventory unit_index u blocks fault
