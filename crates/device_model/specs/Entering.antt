-- What enters the units of a reached device.
use Rattle.std.specs.Prelude.{ℕ, ◌≡◌, ◌≤◌, List, ◌∷◌, Some, slice_get}
use Rattle.std.specs.List.{sum_by}
use Rattle.ring_core.specs.declared.log.Ticket.{Ticket}
use Rattle.request_intake.specs.Inventory.{PlainInventory}
use Rattle.request_intake.specs.declared.decision.Decision.TheVariants as decision
use Rattle.unit_model.specs.Tasks.{Entry}
use Rattle.unit_model.specs.Steps.{Step}
use Rattle.unit_model.specs.Jobs.{PlainJob}
use Rattle.device_model.specs.Parts.{PlainFetch, request_of}
use Rattle.device_model.specs.World.{PlainWorld}
use Rattle.device_model.specs.Transitions.{Transition}
use Rattle.device_model.specs.Event.Fetch.{Finds, DecidesRequest}
use Rattle.device_model.specs.Happens.{world_of}
use Rattle.device_model.specs.Places.{accepted_count, only}
use Rattle.device_model.specs.Weights.{fetches, entered_count, was_accepted}
use Rattle.device_model.specs.Happened.{Happened, IsBeginning, IsFetch}
use Rattle.device_model.specs.Histories.{Stands, history_of}

-- the job is the fetched chain's, for the unit and with the task that were decided of its bytes, and names the address
-- that stands in the inventory there
pub record IsJobOf (inventory : PlainInventory) (f : PlainFetch) (x : PlainJob) : Type 0 where
  pub chain : f.chain ≡ x.chain
  pub ticket : x.entry.ticket ≡ f.chain.ticket
  pub decided : DecidesRequest inventory f (decision.Enter x.unit (request_of x.entry))
  pub addressed : slice_get inventory.addresses x.unit ≡ Some x.address

-- the job is that of a chain that was fetched
pub record IsSent (inventory : PlainInventory) (ds : List Transition) (x : PlainJob) : Type 0 where
  pub fetch : PlainFetch
  pub fetched : Happened (IsFetch fetch) ds
  pub job : IsJobOf inventory fetch x

-- a task that stands at an index is that of a job for this unit
pub record IsEntered (inventory : PlainInventory) (ds : List Transition) (unit_index : ℕ) (e : Entry) : Type 0 where
  pub job : PlainJob
  pub unit : job.unit ≡ unit_index
  pub entry : job.entry ≡ e
  pub sent : IsSent inventory ds job

-- each accepted ticket has one Fetch, and no other ticket has one; this takes what its queue offers, with the bytes
-- that stand in memory then; it enters at most once, in one unit, as what was decided of these bytes
pub record AreEntered (old : PlainWorld) (ds : List Transition) (w : PlainWorld) : Type 0 where
  pub accepted : (p : Ticket → ℕ) → accepted_count p w ≡ sum_by (fetches p) ds
  pub fetched : (t : Ticket) → sum_by (fetches (only t)) ds ≡ was_accepted t w
  pub taken : (f : PlainFetch) (d : Transition) (past : List Transition) → IsBeginning (d ∷ past) ds → IsFetch f d
      → Finds (world_of old past) f
  pub entered_once : (t : Ticket) → sum_by (entered_count (only t)) w.units ≤ 1
  pub as_fetched : (unit_index : ℕ) (e : Entry) → Stands (Step.Enter e) (history_of unit_index ds)
      → IsEntered old.inventory ds unit_index e
