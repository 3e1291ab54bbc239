-- The operator's reset of a unit that a lock lent.
use Rattle.std.proofs.Common.{ℕ, Bool, true, false, List, Ok}
use Rattle.std.specs.Bool.{OnTrue}
use Rattle.scsi_codec.specs.declared.event_queue.Event.{Event as EventRecord}
use Rattle.request_intake.specs.Inventory.{PlainInventory}
use Rattle.unit_model.specs.Jobs.{Jobs}
use Rattle.unit_model.specs.Unit.{PlainUnit, IsUnit}
use Rattle.phases.specs.Resetting.{Resets}
use Rattle.workers.specs.Resetting.{WasReset}

pub was_reset : (inventory : PlainInventory) (unit_index : ℕ) (b : Bool) (u v : PlainUnit) (out out' : Jobs) (w w' : List EventRecord)
    → IsUnit u → Resets inventory unit_index u out w (Ok b) v out' w' → IsUnit v → OnTrue b (WasReset inventory unit_index)
was_reset inventory unit_index true u v out out' w w' before did behind =
    record {
      unit = u;
      jobs = out;
      waiting = w;
      unit_after = v;
      jobs_after = out';
      waiting_after = w';
      stands = before;
      reset = did;
      stands_after = behind;
    }
was_reset inventory unit_index false u v out out' w w' before did behind = tt
