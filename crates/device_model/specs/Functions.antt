-- What holds of the task management functions of a reached device.
use Rattle.std.specs.Prelude.{ℕ, ◌≡◌, ◌⊎◌, ◌↔◌, Bool, true, List, [], ◌∷◌, length}
use Rattle.std.specs.List.{AllByRecursion}
use Rattle.scsi_codec.specs.ControlQueue.{function_bytes}
use Rattle.scsi_codec.specs.declared.control_queue.FunctionResponse.{FunctionResponse}
use Rattle.scsi_codec.specs.declared.control_queue.FunctionResponse.TheVariants.{Complete, Failure, Succeeded}
use Rattle.ring_core.specs.State.{PlainChain}
use Rattle.ring_core.specs.declared.log.Ticket.{Ticket}
use Rattle.request_intake.specs.Inventory.{PlainInventory}
use Rattle.unit_model.specs.declared.rule.Rule.{Rule}
use Rattle.unit_model.specs.Tasks.{Entry}
use Rattle.unit_model.specs.Steps.{alive, has_left}
use Rattle.unit_model.specs.Clearing.{met_by, met_at}
use Rattle.unit_model.specs.Seen.{any_met}
use Rattle.unit_model.specs.Jobs.{PlainJob}
use Rattle.task_mgmt.specs.Functions.{PlainFunction, step_by}
use Rattle.task_mgmt.specs.declared.control.ControlDecision.TheVariants as managed
use Rattle.task_mgmt.specs.declared.kind.Kind.{Kind}
use Rattle.task_mgmt.specs.declared.kind.Kind.TheVariants.{Marking, Querying}
use Rattle.task_mgmt.specs.declared.kind.MarkBy.{MarkBy}
use Rattle.task_mgmt.specs.declared.function.Mark.{Mark as MarkAt}
use Rattle.device_model.specs.Parts.{Completion, PlainFetch, answer_writes}
use Rattle.device_model.specs.World.{PlainQueue, PlainWorld}
use Rattle.device_model.specs.Transitions.{Transition}
use Rattle.device_model.specs.Found.{QueueIs}
use Rattle.device_model.specs.Event.Fetch.{DecidesControl}
use Rattle.device_model.specs.Happens.{world_of}
use Rattle.device_model.specs.Happened.{Happened, IsBeginning, IsFetch, IsAnswer, IsMark, IsFound, IsFail, IsVisit}
use Rattle.device_model.specs.Histories.{history_of}

abbrev pub Among : ℕ → List ℕ → Type 0
Among unit_index [] = ⊥
Among unit_index (k ∷ left) = (k ≡ unit_index) ⊎ Among unit_index left

-- what was decided of the bytes of a Fetch is this function
pub record IsBegun (inventory : PlainInventory) (ds : List Transition) (t : Ticket) : Type 0 where
  pub fetch : PlainFetch
  pub fetched : Happened (IsFetch fetch) ds
  pub ticket : fetch.chain.ticket ≡ t
  pub function : PlainFunction
  pub decided : DecidesControl inventory fetch (managed.Opens function)

-- a function of this ticket and kind, and this unit is one of its units
pub record IsFor (inventory : PlainInventory) (ds : List Transition) (t : Ticket) (kind : Kind) (unit_index : ℕ) : Type 0 where
  pub begun : IsBegun inventory ds t
  pub does : begun.function.kind ≡ kind
  pub among : Among unit_index begun.function.left

-- the mark of a function stands at its place, of one of its units, and whichever transitions come, the step there met the
-- tasks that were alive then and that the mark meets
pub record IsMarkedSo (old : PlainWorld) (ds past : List Transition) (t : Ticket) (p : MarkAt) (m : MarkBy) : Type 0 where
  pub before : p.place ≡ length (history_of p.unit past)
  pub meets : met_at p.place (history_of p.unit ds) ≡ met_by (step_by m) (history_of p.unit past)
  pub visit : IsFor old.inventory past t (Marking m) p.unit

-- all tasks that a mark met have left, and were answered
abbrev pub IsClear : MarkAt → List Transition → Type 0
IsClear p ds =
    AllByRecursion (λ (e : Entry). (has_left e.ticket (history_of p.unit ds) ≡ true) × Happened (IsAnswer e.ticket) ds)
    (met_at p.place (history_of p.unit ds))

abbrev pub IsResponse : FunctionResponse → Type 0
IsResponse r = (r ≡ Complete) ⊎ ((r ≡ Succeeded) ⊎ (r ≡ Failure))

-- all its units were visited, unless memory was refused; all its marks are clear; it found a task exactly where a look
-- did, and failed exactly where memory was refused; and its bytes are those of its response
pub record IsOver (old : PlainWorld) (past : List Transition) (c : PlainChain) (r : FunctionResponse) (xs : Completion)
    : Type 0 where
  pub begun : IsBegun old.inventory past c.ticket
  pub chain : begun.fetch.chain ≡ c
  pub visited : (unit_index : ℕ) → Among unit_index begun.function.left
      → Happened (IsVisit c.ticket unit_index) past ⊎ Happened (IsFail c.ticket) past
  pub clear : (p : MarkAt) → Happened (IsMark c.ticket p) past → IsClear p past
  pub response : IsResponse r
  pub succeeds : (r ≡ Succeeded) ↔ Happened (IsFound c.ticket) past
  pub fails : (r ≡ Failure) ↔ Happened (IsFail c.ticket) past
  pub queue : PlainQueue
  pub there : QueueIs (world_of old past) c.ticket.queue queue
  pub writes : xs.writes ≡ answer_writes queue.ring c (function_bytes r)

-- a look says whether a task is alive that its rule meets; marks and looks are of the kind and on the units that were
-- decided of the function's Fetch; a function is answered once it is over
pub record AreOver (old : PlainWorld) (ds : List Transition) : Type 0 where
  pub marks : (t : Ticket) (p : MarkAt) (m : MarkBy) (jobs : List PlainJob) (past : List Transition)
      → IsBeginning (Transition.Mark t p m jobs ∷ past) ds
      → IsMarkedSo old ds past t p m
  pub looks : (t : Ticket) (unit_index : ℕ) (rule : Rule) (b : Bool) (past : List Transition)
      → IsBeginning (Transition.Ask t unit_index rule b ∷ past) ds
      → (b ≡ any_met rule (alive (history_of unit_index past))) × IsFor old.inventory past t (Querying rule) unit_index
  pub responds : (c : PlainChain) (r : FunctionResponse) (xs : Completion) (past : List Transition)
      → IsBeginning (Transition.Respond c r xs ∷ past) ds → IsOver old past c r xs
