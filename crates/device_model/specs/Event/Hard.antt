-- The operator resets a unit.
use Rattle.std.specs.Prelude.{◌≡◌, List, [], ◌∷◌, length, Some, None, slice_get, ◌++◌, Option}
use Rattle.scsi_codec.specs.declared.event_queue.Event.{Event as EventRecord}
use Rattle.scsi_codec.specs.EventQueue.{transport_reset}
use Rattle.unit_model.specs.Steps.{Step}
use Rattle.unit_model.specs.Jobs.{PlainJob}
use Rattle.unit_model.specs.Unit.{PlainUnit, after as stepped}
use Rattle.task_mgmt.specs.declared.function.Mark.{Mark as MarkAt}
use Rattle.device_model.specs.World.{Seat, PlainWorld, change}
use Rattle.unit_attention.specs.declared.code.Code.{Code}
use Rattle.unit_attention.specs.Code.{code}
use Rattle.unit_model.specs.Receipts.{unit_address}
use Rattle.device_model.specs.Found.{UnitIs, handed_out}
use Rattle.device_model.specs.Changing.{with_jobs}
use Rattle.device_model.specs.Event.Wake.{waking}

-- POWER ON, RESET, OR BUS DEVICE RESET OCCURRED (SPC-4 §4.5.6)
abbrev pub hard_code : Code
hard_code = code 0x29 0x00

-- a transport reset of the unit, with reason 0 (VIRTIO 1.2 §5.6.6.3)
abbrev pub hard_report : PlainUnit → EventRecord
hard_report u = record { event = transport_reset; address = Some (unit_address u.opening); reason = 0 }

-- of the unit of an index, if there is one
abbrev pub reports_of : Option PlainUnit → List EventRecord
reports_of None = []
reports_of (Some u) = hard_report u ∷ []

pub record Resets (w : PlainWorld) (p : MarkAt) (jobs : List PlainJob) : Type 0 where
  pub unit : PlainUnit
  pub there : UnitIs w p.unit unit
  pub before : p.place ≡ length unit.steps
  pub releases : jobs ≡ handed_out unit (Step.Reset hard_code)
  pub seat : Seat
  pub seat_there : slice_get w.seats w.workers ≡ Some seat

-- the operator's seat has the jobs that may run now; the driver is to be told; each job that waits is to be
-- tried again, since a task that is marked ends without them
abbrev pub after_hard : MarkAt → List PlainJob → PlainWorld → PlainWorld
after_hard p jobs w =
    record w {
      units = change (stepped (Step.Reset hard_code)) p.unit w.units;
      seats = change (with_jobs jobs) w.workers w.seats;
      waiting = w.waiting ++ reports_of (slice_get w.units p.unit);
      aside = [];
      woken = waking w;
    }
