-- The operator's resize of a unit that a lock lent.
use Rattle.std.proofs.Common.{ℕ, ◌≡◌, Bool, true, false, List, Ok}
use Rattle.request_intake.specs.Inventory.{PlainInventory}
use Rattle.phases.specs.declared.resizing.ResizeFault.{ResizeFault}
use Rattle.phases.specs.declared.resizing.ResizeFault.TheVariants as fault
use Rattle.unit_model.specs.Contents.{is_capacity}
use Rattle.std.specs.Bool.{OnTrue}
use Rattle.scsi_codec.specs.declared.event_queue.Event.{Event as EventRecord}
use Rattle.unit_model.specs.Unit.{PlainUnit, IsUnit}
use Rattle.phases.specs.Resizing.{RefusesResize, ResizesUnit}
use Rattle.workers.specs.Resizing.{ResizeFails, WasResized}

pub was_resized : (inventory : PlainInventory) (unit_index blocks : ℕ) (told b : Bool) (u v : PlainUnit) (w w' : List EventRecord)
    → IsUnit u → ResizesUnit inventory unit_index u blocks told w (Ok b) v w' → IsUnit v
    → OnTrue b (WasResized inventory unit_index blocks told)
was_resized inventory unit_index blocks told true u v w w' before did behind =
    record {
      unit = u;
      waiting = w;
      unit_after = v;
      waiting_after = w';
      stands = before;
      resized = did;
      stands_after = behind;
    }
was_resized inventory unit_index blocks told false u v w w' before did behind = tt

-- what a unit refuses, of a capacity that one may have
pub resize_fails : (inventory : PlainInventory) (unit_index : ℕ) (u : PlainUnit) (blocks : ℕ) (x : ResizeFault) → is_capacity blocks ≡ true
    → RefusesResize inventory unit_index u blocks x → ResizeFails blocks x
resize_fails inventory unit_index u blocks fault.WrongUnit may h = may
resize_fails inventory unit_index u blocks fault.BadCapacity may h = h.1
resize_fails inventory unit_index u blocks fault.NoMemory may h = h.1
