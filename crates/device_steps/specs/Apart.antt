-- The device apart from its memory, and what an event does to it whatever stands there.
use Rattle.std.specs.Prelude.{ℕ, ◌≡◌, Bool, true, false, List, [], Option, Result, Ok, Err, ⊤}
use Rattle.guest_mem.specs.Stores.{Store}
use Rattle.foundation.specs.declared.NoMemory.{NoMemory}
use Rattle.scsi_codec.specs.declared.event_queue.Event.{Event as EventRecord}
use Rattle.ring_core.specs.State.{PlainChain}
use Rattle.ring_core.specs.Writes.{Write, stores_of}
use Rattle.request_intake.specs.Inventory.{PlainInventory}
use Rattle.unit_model.specs.Jobs.{PlainJob}
use Rattle.unit_model.specs.Unit.{PlainUnit}
use Rattle.device_model.specs.World.{PlainQueue, Seat, Opened, PlainWorld, Everywhere}
use Rattle.device_model.specs.Events.{Event}
use Rattle.device_model.specs.Transitions.{Transition, event_of, action_of, completion_of}
use Rattle.device_model.specs.After.{after}
use Rattle.device_model.specs.Happens.{Happens, MayWant}
use Rattle.device_model.specs.Applies.{Applies}
use Rattle.phases.specs.InMemory.{EachSeen, ByOneReading}
use Rattle.phases.specs.EventsInMemory.{SeesBy}

-- all of the device but memory
pub record PlainDevice : Type 0 where
  pub inventory : PlainInventory
  pub queues : List PlainQueue
  pub units : List PlainUnit
  pub seats : List Seat
  pub workers : ℕ
  pub aside : List PlainJob
  pub woken : List PlainJob
  pub handed_off : List (List PlainJob)
  pub limit : ℕ
  pub function : Option Opened
  pub buffers : List PlainChain
  pub missed : Bool
  pub waiting : List EventRecord
  pub tells_changes : Bool

-- the device with these bytes in memory, which is shared or not
abbrev pub standing : Bool → List ℕ → PlainDevice → PlainWorld
standing shared m d =
    record {
      memory = m;
      shared = shared;
      inventory = d.inventory;
      queues = d.queues;
      units = d.units;
      seats = d.seats;
      workers = d.workers;
      aside = d.aside;
      woken = d.woken;
      handed_off = d.handed_off;
      limit = d.limit;
      function = d.function;
      buffers = d.buffers;
      missed = d.missed;
      waiting = d.waiting;
      tells_changes = d.tells_changes;
    }

-- each ring was made for a memory of this size
abbrev pub FitsIn : ℕ → PlainDevice → Type 0
FitsIn size d = Everywhere (λ i (q : PlainQueue). q.ring.memory ≡ size) d.queues

-- One event in a memory that others may write too

-- of a memory these writes were stored between two moments, in order, and nothing else
abbrev pub Stored : {X S : Type 0} → (X → S) → (S → List Store → S) → X → X → List Write → Type 0
Stored {X} {S} known storing x y writes = known y ≡ storing (known x) (stores_of writes)

-- a transition of the event was done, which stored its writes, and by this memory the notice of what it completed was
-- decided; where it completed nothing, this memory was left. Or the event doesn't apply, nothing changed, nothing was
-- stored, and this memory was found
abbrev pub TurnsSeen : (List Write → Type 0) → List ℕ → PlainWorld → Event → Bool → PlainWorld → Type 0
TurnsSeen stored seen w e true w' =
    (t : Transition) × (event_of t ≡ e) × Happens t w × (w' ≡ after t w) × SeesBy (completion_of t) w'.memory seen
    × stored (action_of t).writes
TurnsSeen stored seen w e false w' = (w' ≡ w) × (Applies w e → ⊥) × (seen ≡ w.memory) × stored []

-- that, or the memory that the event asks the host for was refused
abbrev pub TurnsSeenOrWants : (List Write → Type 0) → List ℕ → PlainWorld → Event → Result Bool NoMemory → PlainWorld → Type 0
TurnsSeenOrWants stored seen w e (Ok changed) w' = TurnsSeen stored seen w e changed w'
TurnsSeenOrWants stored seen w e (Err x) w' = MayWant e w × (w' ≡ w) × (seen ≡ w.memory) × stored []

abbrev pub TurnsInOrWants : Bool → (List ℕ → Type 0) → (List ℕ → Type 0) → (List Write → Type 0) → PlainDevice → Event
    → Result Bool NoMemory → PlainDevice → Type 0
TurnsInOrWants shared before after stored d e result d' =
    EachSeen shared before after
    (λ found left seen. TurnsSeenOrWants stored seen (standing shared found d) e result (standing shared left d'))

-- a chain is fetched by one reading of memory
abbrev pub FetchesOnce : {X : Type 0} → Bool → (X → List ℕ → Type 0) → (List Write → Type 0) → X → PlainDevice → Event
    → Result Bool NoMemory → X → PlainDevice → Type 0
FetchesOnce {X} shared may_be stored x d (Event.Fetch i) result y d' =
    ByOneReading shared may_be x y
    (λ found left seen.
    TurnsSeenOrWants stored seen (standing shared found d) (Event.Fetch i) result (standing shared left d'))
FetchesOnce {X} shared may_be stored x d e result y d' = ⊤
