-- The operator's reset of a unit that a lock lent.
use Rattle.std.specs.Prelude.{ℕ, true, List, Ok}
use Rattle.scsi_codec.specs.declared.event_queue.Event.{Event as EventRecord}
use Rattle.request_intake.specs.Inventory.{PlainInventory}
use Rattle.unit_model.specs.Jobs.{Jobs}
use Rattle.unit_model.specs.Unit.{PlainUnit, IsUnit}
use Rattle.phases.specs.Resetting.{Resets}

-- own: a unit with the address that stands at this index of the inventory was reset: the jobs that this released, and the
-- event that tells the guest, stand behind those that were there
pub record WasReset (inventory : PlainInventory) (unit_index : ℕ) : Type 0 where
  pub unit : PlainUnit
  pub jobs : Jobs
  pub waiting : List EventRecord
  pub unit_after : PlainUnit
  pub jobs_after : Jobs
  pub waiting_after : List EventRecord
  pub stands : IsUnit unit
  pub reset : Resets inventory unit_index unit jobs waiting (Ok true) unit_after jobs_after waiting_after
  pub stands_after : IsUnit unit_after
