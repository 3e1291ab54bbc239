-- The device as a plain value: memory, queues, units, seats, the hand-off, one function, the event port.
use Rattle.std.specs.Prelude.{ℕ, Bool, false, zero, suc, ◌≡◌, ◌-◌, ◌%◌, ◌+◌, ◌<◌, ◌≤◌, ◌⊎◌, List, [], ◌∷◌, ◌++◌, length, Option, Some, None, slice_get}
use Rattle.scsi_codec.specs.declared.event_queue.Event.{Event as EventRecord}
use Rattle.ring_core.specs.State.{RingState, PlainChain}
use Rattle.request_intake.specs.Inventory.{PlainInventory}
use Rattle.unit_model.specs.Jobs.{PlainJob}
use Rattle.unit_model.specs.Unit.{PlainUnit}
use Rattle.task_mgmt.specs.Functions.{PlainFunction}
use Rattle.device_model.specs.Addressed.{IsAddressed}
use Rattle.device_model.specs.Parts.{Slot, Hand}

-- its ring, what it has between two steps, and how many notices were wanted
pub record PlainQueue : Type 0 where
  pub ring : RingState
  pub slot : Slot
  pub notices : ℕ

-- what it has in hand, and the jobs that it is to hand off
pub record Seat : Type 0 where
  pub hand : Hand
  pub out : List PlainJob

-- a function, and the chain that asked for it
pub record Opened : Type 0 where
  pub chain : PlainChain
  pub function : PlainFunction

-- queue 0 is the control queue, queue 1 the event queue; seats below `workers` are the workers', the next one is the
-- operator's
pub record PlainWorld : Type 0 where
  pub memory : List ℕ
  -- the guest may write into memory at any time, also between an answer and the look whether a notice of it is wanted;
  -- else it does so between two steps alone
  pub shared : Bool
  -- the addresses and profiles of the units, and which have a volatile write cache, in their order
  pub inventory : PlainInventory
  pub queues : List PlainQueue
  pub units : List PlainUnit
  pub seats : List Seat
  pub workers : ℕ
  -- jobs that wait for their unit's disk, and those that are to be tried again
  pub aside : List PlainJob
  pub woken : List PlainJob
  -- for each seat the jobs that it handed off and that none took yet, and how many these may be
  pub handed_off : List (List PlainJob)
  pub limit : ℕ
  pub function : Option Opened
  -- event buffers that are held, and whether an event was missed since the last one
  pub buffers : List PlainChain
  pub missed : Bool
  -- events that are to be raised
  pub waiting : List EventRecord
  -- the driver is told of capacities that change
  pub tells_changes : Bool

-- the item of a number, changed
abbrev pub change : {X : Type 0} → (X → X) → ℕ → List X → List X
change f k [] = []
change f zero (x ∷ xs) = f x ∷ xs
change f (suc k) (x ∷ xs) = x ∷ change f k xs

-- each item, with its number
abbrev pub Everywhere : {X : Type 0} → (ℕ → X → Type 0) → List X → Type 0
Everywhere P xs = (i : ℕ) (x : _) → slice_get xs i ≡ Some x → P i x

-- the jobs of lists, one list after the other; all jobs that are handed off
abbrev pub all_of : List (List PlainJob) → List PlainJob
all_of [] = []
all_of (jobs ∷ lists) = jobs ++ all_of lists

abbrev pub all_off : PlainWorld → List PlainJob
all_off w = all_of w.handed_off

-- own: whoever takes for a seat looks at its own list first, then at those of the next seats by rising number, and so
-- round to the beginning: on the way from the list k, the list i comes before the list j
abbrev pub IsBefore : ℕ → ℕ → ℕ → Type 0
IsBefore k i j = ((k ≤ i) × ((i < j) ⊎ (j < k))) ⊎ ((i < j) × (j < k))

-- the seat that serves a request queue
abbrev pub owner : ℕ → ℕ → ℕ
owner workers q = (q - 2) % workers

pub record IsNewQueue (i : ℕ) (q : PlainQueue) : Type 0 where
  pub numbered : q.ring.queue ≡ i
  pub accepted : q.ring.log.accepted ≡ []
  pub used : q.ring.log.used ≡ []
  pub whole : q.ring.broken ≡ None
  pub slot : q.slot ≡ Slot.Empty
  pub notices : q.notices ≡ 0

pub record IsNewUnit (u : PlainUnit) : Type 0 where
  pub steps : u.steps ≡ []
  pub parked : u.parked ≡ []

pub record IsNewSeat (s : Seat) : Type 0 where
  pub hand : s.hand ≡ Hand.Empty
  pub out : s.out ≡ []

-- each unit has what stands in the inventory at its index
abbrev pub AreAddressed : PlainWorld → Type 0
AreAddressed w = Everywhere (IsAddressed w.inventory) w.units

-- nothing has happened yet
pub record Opens (w : PlainWorld) : Type 0 where
  pub queues : Everywhere (λ i q. IsNewQueue i q) w.queues
  pub units : Everywhere (λ i u. IsNewUnit u) w.units
  pub there : length w.units ≡ length w.inventory.addresses
  pub addressed : AreAddressed w
  pub seats : Everywhere (λ i s. IsNewSeat s) w.seats
  pub working : 1 ≤ w.workers
  pub seated : length w.seats ≡ w.workers + 1
  pub handed_off : Everywhere (λ k jobs. jobs ≡ []) w.handed_off
  pub lists : length w.handed_off ≡ length w.seats
  pub aside : w.aside ≡ []
  pub woken : w.woken ≡ []
  pub function : w.function ≡ None
  pub buffers : w.buffers ≡ []
  pub missed : w.missed ≡ false
  pub waiting : w.waiting ≡ []
