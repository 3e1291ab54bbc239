-- What is true of everything that stands somewhere in the device, in every world that is reached.
use Rattle.std.specs.Prelude.{ℕ, ◌≡◌, ◌⊎◌, ◌<◌, ◌≤◌, ◌+◌, ◌*◌, ◌||◌, true, false, List, [], ◌∷◌, length, Option, Some, None, slice_get, ⊤}
use Rattle.std.specs.List.{AllByRecursion}
use Rattle.command_model.specs.PlainReply.{PlainReply}
use Rattle.ring_core.specs.State.{PlainChain, Owns}
use Rattle.ring_core.specs.declared.log.Ticket.{Ticket}
use Rattle.unit_model.specs.Tasks.{Entry, task_of}
use Rattle.unit_model.specs.Steps.{alive, done, next_number}
use Rattle.unit_model.specs.Marks.{marked}
use Rattle.unit_model.specs.Enabling.{enabled}
use Rattle.unit_model.specs.Lawful.{IsReady}
use Rattle.unit_model.specs.Jobs.{PlainJob}
use Rattle.unit_model.specs.Unit.{PlainUnit, is_backed, IsWithheld}
use Rattle.unit_model.specs.Asking.{IsNamed}
use Rattle.unit_model.specs.declared.rule.Rule.{Rule}
use Rattle.task_mgmt.specs.declared.kind.Kind.TheVariants.{Querying}
use Rattle.task_mgmt.specs.declared.function.Mark.{Mark as MarkAt}
use Rattle.device_model.specs.Parts.{Slot, Hand}
use Rattle.device_model.specs.World.{PlainQueue, Opened, PlainWorld, Everywhere, all_off}
use Rattle.device_model.specs.Found.{QueueIs, UnitIs}

-- Chains

-- the chain is outstanding in its queue, and its memory had that queue's size
pub record IsOwned (w : PlainWorld) (c : PlainChain) : Type 0 where
  pub queue : PlainQueue
  pub there : QueueIs w c.ticket.queue queue
  pub owned : Owns queue.ring c

-- the job is of a request queue and under its chain's ticket
pub record IsJob (w : PlainWorld) (x : PlainJob) : Type 0 where
  pub chain : IsOwned w x.chain
  pub ticket : x.entry.ticket ≡ x.chain.ticket
  pub request : 2 ≤ x.chain.ticket.queue

abbrev pub SlotOwns : PlainWorld → ℕ → Slot → Type 0
SlotOwns w i Slot.Empty = ⊤
SlotOwns w i (Slot.Arrived x) = (x.chain.ticket.queue ≡ i) × IsJob w x
SlotOwns w i (Slot.Direct c o) = (c.ticket.queue ≡ i) × IsOwned w c

abbrev pub HandOwns : PlainWorld → Hand → Type 0
HandOwns w Hand.Empty = ⊤
HandOwns w (Hand.Taken x) = IsJob w x
HandOwns w (Hand.Done x o) = IsJob w x
HandOwns w (Hand.Answered unit_index t) = ⊤

abbrev pub FunctionOwns : PlainWorld → Option Opened → Type 0
FunctionOwns w None = ⊤
FunctionOwns w (Some o) = (o.chain.ticket.queue ≡ 0) × IsOwned w o.chain

-- each chain that stands somewhere is outstanding in its queue
pub record AreOwned (w : PlainWorld) : Type 0 where
  pub slots : Everywhere (λ i q. SlotOwns w i q.slot) w.queues
  pub parked : Everywhere (λ i u. AllByRecursion (IsJob w) u.parked) w.units
  pub seats : Everywhere (λ k s. HandOwns w s.hand × AllByRecursion (IsJob w) s.out) w.seats
  pub handed_off : AllByRecursion (IsJob w) (all_off w)
  pub aside : AllByRecursion (IsJob w) w.aside
  pub woken : AllByRecursion (IsJob w) w.woken
  pub function : FunctionOwns w w.function
  pub buffers : AllByRecursion (λ (c : PlainChain). (c.ticket.queue ≡ 1) × IsOwned w c) w.buffers

-- the event queue has at least as many chains outstanding as event buffers are held
abbrev pub BuffersAreOutstanding : PlainWorld → Type 0
BuffersAreOutstanding w =
    (q : PlainQueue) → slice_get w.queues 1 ≡ Some q
    → length w.buffers + length q.ring.log.used ≤ length q.ring.log.accepted

-- Tasks

-- the task of a job that is to be committed: it is alive in the job's unit as it entered, may run or was marked, and
-- isn't done, unless its reply is withheld
pub record IsToCommit (w : PlainWorld) (x : PlainJob) : Type 0 where
  pub unit : PlainUnit
  pub there : UnitIs w x.unit unit
  pub alive : task_of x.entry.ticket (alive unit.steps) ≡ Some x.entry
  pub handed_out : (enabled x.entry unit.steps || marked x.entry.ticket unit.steps) ≡ true
  pub undone : (done x.entry.ticket unit.steps ≡ false) ⊎ ((r : PlainReply) × IsWithheld unit x.entry.ticket x.entry r)

-- a task that is to leave: it is alive in the unit, and is done or was marked
pub record IsToLeave (w : PlainWorld) (unit_index : ℕ) (t : Ticket) : Type 0 where
  pub unit : PlainUnit
  pub there : UnitIs w unit_index unit
  pub entry : Entry
  pub alive : task_of t (alive unit.steps) ≡ Some entry
  pub ended : (done t unit.steps || marked t unit.steps) ≡ true

abbrev pub HandWorks : PlainWorld → Hand → Type 0
HandWorks w Hand.Empty = ⊤
HandWorks w (Hand.Taken x) = IsToCommit w x
HandWorks w (Hand.Done x o) = IsToLeave w x.unit x.entry.ticket
HandWorks w (Hand.Answered unit_index t) = IsToLeave w unit_index t

-- each job that was handed out is that of a task that is alive
pub record AreAtWork (w : PlainWorld) : Type 0 where
  pub seats : Everywhere (λ k s. HandWorks w s.hand × AllByRecursion (IsToCommit w) s.out) w.seats
  pub handed_off : AllByRecursion (IsToCommit w) (all_off w)
  pub aside : AllByRecursion (IsToCommit w) w.aside
  pub woken : AllByRecursion (IsToCommit w) w.woken

-- a job that waits: its unit's disk is one whose pages come and go, and its command may run, or its reply is withheld
pub record IsAside (w : PlainWorld) (x : PlainJob) : Type 0 where
  pub unit : PlainUnit
  pub there : UnitIs w x.unit unit
  pub backed : is_backed unit ≡ true
  pub waits : IsReady x.entry.ticket x.entry unit.steps ⊎ ((r : PlainReply) × IsWithheld unit x.entry.ticket x.entry r)

abbrev pub AreAside : PlainWorld → Type 0
AreAside w = AllByRecursion (IsAside w) w.aside

-- no unit's disk is one whose pages come and go
abbrev pub NoneIsBacked : PlainWorld → Type 0
NoneIsBacked w = Everywhere (λ i u. is_backed u ≡ false) w.units

-- Tickets

-- a request that arrived is the latest of its queue, and its unit is there
pub record IsLatest (w : PlainWorld) (q : PlainQueue) (x : PlainJob) : Type 0 where
  pub number : x.entry.ticket.number + 1 ≡ length q.ring.log.accepted
  pub unit : PlainUnit
  pub there : UnitIs w x.unit unit

abbrev pub SlotIsLatest : PlainWorld → PlainQueue → Slot → Type 0
SlotIsLatest w q Slot.Empty = ⊤
SlotIsLatest w q (Slot.Arrived x) = IsLatest w q x
SlotIsLatest w q (Slot.Direct c o) = ⊤

-- the tickets of a queue below this one may stand in histories
abbrev pub front_of : Slot → ℕ → ℕ
front_of Slot.Empty n = n
front_of (Slot.Arrived x) n = x.entry.ticket.number
front_of (Slot.Direct c o) n = n

-- no history has the ticket of a request that arrived, or one that wasn't accepted
pub record IsBehind (w : PlainWorld) (i : ℕ) (q : PlainQueue) : Type 0 where
  pub latest : SlotIsLatest w q q.slot
  pub floors : Everywhere (λ k u. next_number i u.steps ≤ front_of q.slot (length q.ring.log.accepted)) w.units

abbrev pub AreBehind : PlainWorld → Type 0
AreBehind w = Everywhere (IsBehind w) w.queues

-- each request that arrived names the unit that it is for
abbrev pub AreNamedThere : PlainWorld → Type 0
AreNamedThere w = (x : PlainJob) (i : ℕ) (q : PlainQueue) (u : PlainUnit) → slice_get w.queues i ≡ Some q
    → q.slot ≡ Slot.Arrived x → UnitIs w x.unit u → IsNamed x u

-- Room

-- no seat has more jobs than there may be tasks, and no more wait or are to be tried again; each seat has its list of the hand-off, which has no more than the limit
pub record HaveRoom (w : PlainWorld) : Type 0 where
  pub seats : Everywhere (λ k s. length s.out ≤ 64 * length w.units) w.seats
  pub lists : length w.handed_off ≡ length w.seats
  pub handed_off : Everywhere (λ k jobs. length jobs ≤ w.limit) w.handed_off
  pub waiting : length w.aside + length w.woken ≤ 64 * length w.units

-- The function

-- the units that are left, and those whose marks are waited for, are there
abbrev pub FunctionIsThere : ℕ → Option Opened → Type 0
FunctionIsThere units None = ⊤
FunctionIsThere units (Some o) =
    AllByRecursion (λ unit_index. unit_index < units) o.function.left
    × AllByRecursion (λ (p : MarkAt). p.unit < units) o.function.waits

-- the open function is a query that has looked at all its units, and has not checked all of them
pub record IsToCheck (w : PlainWorld) : Type 0 where
  pub opened : Opened
  pub there : w.function ≡ Some opened
  pub rule : Rule
  pub asks : opened.function.kind ≡ Querying rule
  pub left : opened.function.left ≡ []
  pub mark : MarkAt
  pub later : List MarkAt
  pub waits : opened.function.waits ≡ mark ∷ later
