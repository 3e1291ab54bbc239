-- What the phases do that work on the event queue, in a memory that others may write too: found, left and seen as in InMemory.
use Rattle.std.specs.Prelude.{ℕ, ◌≡◌, ◌&&◌, ◌||◌, ◌++◌, Bool, true, false, List, [], ◌∷◌, Result, Ok, Err, ⊤}
use Rattle.foundation.specs.declared.NoMemory.{NoMemory}
use Rattle.scsi_codec.specs.declared.event_queue.Event.{Event as EventRecord}
use Rattle.scsi_codec.specs.EventQueue.{event_bytes}
use Rattle.ring_core.specs.State.{PlainChain, Owns}
use Rattle.ring_core.specs.Writes.{Write, all_written}
use Rattle.ring_core.specs.Offer.{MayLackMemory}
use Rattle.request_intake.specs.Inventory.{PlainInventory}
use Rattle.event_queue.specs.Port.{PlainPort}
use Rattle.device_model.specs.Parts.{Slot, answer_writes, is_short}
use Rattle.device_model.specs.World.{PlainQueue}
use Rattle.device_model.specs.Transitions.{Transition, completion_of}
use Rattle.device_model.specs.Event.Fetch.{spent_bytes}
use Rattle.device_model.specs.Phases.{AsksQueue, queue_after, bytes_after}
use Rattle.virtqueue.specs.Queue.{BareQueue, completing, MayComplete}
use Rattle.virtqueue.specs.Looking.{Looks}
use Rattle.virtqueue.specs.declared.queue.Fetch.{Fetch}
use Rattle.virtqueue.specs.declared.queue.Fetch.TheVariants as look
use Rattle.phases.specs.Queue.{with_slot}
use Rattle.phases.specs.Fetching.{IsFree, HasSome}
use Rattle.phases.specs.EventQueue.{IsEventFetch, MayHold, port_after}
use Rattle.phases.specs.Inner.InMemory.{as_seen, AtQueueIn, StaysQueueIn}
use Rattle.phases.specs.Inner.Stored.{writes_of}
use Rattle.phases.specs.EventsInMemory.{SeesBy}

-- Fetch

-- `DoesAtPort` in such a memory
pub record DoesAtPortIn (shared : Bool) (d : Transition) (q : PlainQueue) (found : List ℕ) (p : PlainPort) (q' : PlainQueue)
    (left seen : List ℕ) (p' : PlainPort) : Type 0 where
  pub asks : (inventory : PlainInventory) → AsksQueue shared inventory p.missed d q found
  pub queue : q' ≡ queue_after d found q
  pub memory : left ≡ bytes_after d found
  pub sees : SeesBy (completion_of d) left seen
  pub port : p' ≡ port_after d p

-- nothing changed, and memory is seen as it was found
pub record StaysAtPortIn (q : PlainQueue) (found : List ℕ) (p : PlainPort) (q' : PlainQueue) (left seen : List ℕ)
    (p' : PlainPort) : Type 0 where
  pub queue : q' ≡ q
  pub memory : left ≡ found
  pub sees : seen ≡ found
  pub port : p' ≡ p

-- `FetchesEvent` in such a memory, in which these writes were stored
abbrev pub FetchesEventIn : Bool → (List Write → Type 0) → PlainQueue → List ℕ → PlainPort → Result Bool NoMemory → PlainQueue
    → List ℕ → List ℕ → PlainPort → Type 0
FetchesEventIn shared stored q found p (Ok true) q' left seen p' =
    (q.ring.queue ≡ 1) × IsFree q found
    × ((d : Transition) × IsEventFetch d × DoesAtPortIn shared d q found p q' left seen p' × stored (writes_of (completion_of d)))
FetchesEventIn shared stored q found p (Ok false) q' left seen p' =
    StaysAtPortIn q found p q' left seen p' × (q.ring.queue ≡ 1 → MayHold p → HasSome q found → ⊥) × stored []
FetchesEventIn shared stored q found p (Err e) q' left seen p' =
    StaysAtPortIn q found p q' left seen p' × (q.ring.queue ≡ 1) × IsFree q found × MayLackMemory q.ring found × stored []

-- Raise

-- nothing changed, and memory is seen as it was found
pub record StaysRaisedIn (q : BareQueue) (found : List ℕ) (p : PlainPort) (w : List EventRecord) (q' : BareQueue)
    (left seen : List ℕ) (p' : PlainPort) (w' : List EventRecord) : Type 0 where
  pub at_queue : StaysQueueIn q q' found left seen
  pub port : p' ≡ p
  pub waiting : w' ≡ w

-- the event goes to the oldest buffer
abbrev pub given_to : PlainChain → EventRecord → BareQueue → List ℕ → Transition
given_to c e q seen = Transition.Give e c (as_seen seen (answer_writes q.ring c (event_bytes e)))

-- `RaisesTo` in such a memory
abbrev pub RaisesToIn : Bool → List PlainChain → EventRecord → List EventRecord → BareQueue → List ℕ → PlainPort → Bool
    → BareQueue → List ℕ → List ℕ → PlainPort → List EventRecord → Type 0
RaisesToIn shared (c ∷ more) e later q found p true q' left seen p' w' =
    AtQueueIn shared (given_to c e q seen) q found q' left × (p' ≡ port_after (given_to c e q seen) p) × (w' ≡ later)
RaisesToIn shared (c ∷ more) e later q found p false q' left seen p' w' =
    (MayComplete q found c → ⊥) × StaysRaisedIn q found p (e ∷ later) q' left seen p' w'
RaisesToIn shared [] e later q found p true q' left seen p' w' =
    StaysQueueIn q q' found left seen × (p' ≡ port_after (Transition.Miss e) p) × (w' ≡ later)
RaisesToIn shared [] e later q found p false q' left seen p' w' = ⊥

-- `RaisesNext` in such a memory
abbrev pub RaisesNextIn : Bool → List EventRecord → BareQueue → List ℕ → PlainPort → Bool → BareQueue → List ℕ → List ℕ
    → PlainPort → List EventRecord → Type 0
RaisesNextIn shared (e ∷ later) q found p result q' left seen p' w' =
    RaisesToIn shared p.buffers e later q found p result q' left seen p' w'
RaisesNextIn shared [] q found p true q' left seen p' w' = ⊥
RaisesNextIn shared [] q found p false q' left seen p' w' = StaysRaisedIn q found p [] q' left seen p' w'

-- a look at the event queue, where a buffer may be taken; else nothing is done
abbrev pub LooksAtPort : Slot → BareQueue → List ℕ → PlainPort → Result Fetch NoMemory → BareQueue → Type 0
LooksAtPort s q m p (Ok look.Idle) q' =
    (q' ≡ q) × (q.ring.queue ≡ 1 → MayHold p → HasSome (with_slot s q) m → ⊥)
LooksAtPort s q m p r q' = (q.ring.queue ≡ 1) × IsFree (with_slot s q) m × Looks q m r q'

-- a chain that was fetched is outstanding at the queue, whose memory has this size, and the port may hold it
abbrev pub IsHeldBy : ℕ → PlainPort → Result Fetch NoMemory → BareQueue → Type 0
IsHeldBy size p (Ok (look.Got f)) q' = (size ≡ q'.ring.memory) × Owns q'.ring f.chain × MayHold p
IsHeldBy size p r q' = ⊤

-- the chain was written with these bytes, and used
pub record UsesWith (c : PlainChain) (bytes : List ℕ) (q : BareQueue) (found : List ℕ) (q' : BareQueue)
    (left seen : List ℕ) : Type 0 where
  pub memory : left ≡ all_written found (answer_writes q.ring c bytes)
  pub queue : q' ≡ completing seen c q

-- a chain of the event queue is used at once, or held
abbrev pub TakesBuffer : Bool → PlainChain → BareQueue → List ℕ → PlainPort → BareQueue → List ℕ → List ℕ → PlainPort → Type 0
TakesBuffer true c q found p q' left seen p' =
    UsesWith c (spent_bytes c) q found q' left seen × (p' ≡ record p { missed = p.missed && is_short c })
TakesBuffer false c q found p q' left seen p' =
    StaysQueueIn q q' found left seen × (p' ≡ record p { buffers = p.buffers ++ c ∷ [] })

abbrev pub TakesBufferOf : PlainChain → BareQueue → List ℕ → PlainPort → BareQueue → List ℕ → List ℕ → PlainPort → Type 0
TakesBufferOf c q found p q' left seen p' = TakesBuffer (is_short c || p.missed) c q found p q' left seen p'

-- the oldest buffer, if there is one, may be completed with a memory of this size
abbrev pub MayRaiseIn : ℕ → List PlainChain → BareQueue → Type 0
MayRaiseIn size [] q = ⊤
MayRaiseIn size (c ∷ more) q = (size ≡ q.ring.memory) × Owns q.ring c
