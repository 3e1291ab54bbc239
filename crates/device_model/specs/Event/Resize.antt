-- The operator changes how many blocks a unit has.
use Rattle.std.specs.Prelude.{ℕ, Bool, if◌then◌else◌, List, [], ◌∷◌, Some, None, slice_get, ◌++◌, Option}
use Rattle.scsi_codec.specs.declared.event_queue.Event.{Event as EventRecord}
use Rattle.scsi_codec.specs.EventQueue.{param_change}
use Rattle.unit_model.specs.Steps.{Step}
use Rattle.unit_model.specs.Unit.{PlainUnit, after as stepped}
use Rattle.device_model.specs.World.{PlainWorld, change}
use Rattle.unit_model.specs.Receipts.{unit_address}
use Rattle.device_model.specs.Found.{UnitIs, MayStep}

-- a change of a parameter of the unit, CAPACITY DATA HAS CHANGED: the reason has the ASC, 2a, and above it the ASCQ, 09
-- (VIRTIO 1.2 §5.6.6.3)
abbrev pub change_report : PlainUnit → EventRecord
change_report u = record { event = param_change; address = Some (unit_address u.opening); reason = 0x092a }

-- of the unit of an index, if there is one, where the driver is told
abbrev pub change_reports : Bool → Option PlainUnit → List EventRecord
change_reports told None = []
change_reports told (Some u) = if told then (change_report u ∷ []) else []

pub record Resizes (w : PlainWorld) (unit_index blocks : ℕ) : Type 0 where
  pub unit : PlainUnit
  pub there : UnitIs w unit_index unit
  pub may : MayStep unit (Step.Resize blocks)

-- the driver is to be told, if it wants that
abbrev pub after_resize : ℕ → ℕ → PlainWorld → PlainWorld
after_resize unit_index blocks w =
    record w {
      units = change (stepped (Step.Resize blocks)) unit_index w.units;
      waiting = w.waiting ++ change_reports w.tells_changes (slice_get w.units unit_index);
    }
