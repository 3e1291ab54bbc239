-- The operator's resize of a unit that a lock lent.
use Rattle.std.specs.Prelude.{ℕ, ◌≡◌, Bool, true, false, List, Ok}
use Rattle.scsi_codec.specs.declared.event_queue.Event.{Event as EventRecord}
use Rattle.request_intake.specs.Inventory.{PlainInventory}
use Rattle.unit_model.specs.Unit.{PlainUnit, IsUnit}
use Rattle.unit_model.specs.Contents.{is_capacity}
use Rattle.phases.specs.declared.resizing.ResizeFault.{ResizeFault}
use Rattle.phases.specs.declared.resizing.ResizeFault.TheVariants as fault
use Rattle.phases.specs.Resizing.{ResizesUnit}

-- own: a capacity that no unit may have is refused as such, and else what is refused is another cause
abbrev pub ResizeFails : ℕ → ResizeFault → Type 0
ResizeFails blocks fault.WrongUnit = is_capacity blocks ≡ true
ResizeFails blocks fault.BadCapacity = is_capacity blocks ≡ false
ResizeFails blocks fault.NoMemory = is_capacity blocks ≡ true

-- own: a unit with the address that stands at this index of the inventory has so many blocks, and the event that tells the
-- guest, where it is told, stands behind those that were there
pub record WasResized (inventory : PlainInventory) (unit_index blocks : ℕ) (told : Bool) : Type 0 where
  pub unit : PlainUnit
  pub waiting : List EventRecord
  pub unit_after : PlainUnit
  pub waiting_after : List EventRecord
  pub stands : IsUnit unit
  pub resized : ResizesUnit inventory unit_index unit blocks told waiting (Ok true) unit_after waiting_after
  pub stands_after : IsUnit unit_after
