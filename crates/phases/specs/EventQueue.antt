-- What the phases do that work on the event queue: a fetch from it, and the raising of an event.
use Rattle.std.specs.Prelude.{ℕ, ◌≡◌, ◌<◌, ◌&&◌, ◌++◌, Bool, true, false, List, [], ◌∷◌, length, drop, Result, Ok, Err}
use Rattle.foundation.specs.declared.NoMemory.{NoMemory}
use Rattle.scsi_codec.specs.declared.event_queue.Event.{Event as EventRecord}
use Rattle.scsi_codec.specs.EventQueue.{event_bytes}
use Rattle.ring_core.specs.State.{PlainChain}
use Rattle.ring_core.specs.Offer.{MayLackMemory}
use Rattle.request_intake.specs.Inventory.{PlainInventory}
use Rattle.event_queue.specs.Port.{PlainPort}
use Rattle.device_model.specs.Parts.{answer_writes, as_left, is_short}
use Rattle.device_model.specs.World.{PlainQueue}
use Rattle.device_model.specs.Transitions.{Transition}
use Rattle.device_model.specs.Phases.{AsksQueue, queue_after, bytes_after}
use Rattle.virtqueue.specs.Queue.{BareQueue, MayComplete}
use Rattle.phases.specs.DoingQueue.{AtQueue}
use Rattle.phases.specs.Fetching.{IsFree, HasSome}
use Rattle.phases.specs.Direct.{StaysQueue}

-- Fetch

-- a transition of a fetch from the event queue
abbrev pub IsEventFetch : Transition → Type 0
IsEventFetch (Transition.Hold f) = f.chain.ticket.queue ≡ 1
IsEventFetch (Transition.UseBuffer f xs) = f.chain.ticket.queue ≡ 1
IsEventFetch (Transition.Break q n) = q ≡ 1
IsEventFetch d = ⊥

-- what a transition leaves of the port
abbrev pub port_after : Transition → PlainPort → PlainPort
port_after (Transition.Hold f) p = record p { buffers = p.buffers ++ f.chain ∷ [] }
port_after (Transition.UseBuffer f xs) p = record p { missed = p.missed && is_short f.chain }
port_after (Transition.Give e c xs) p = record p { buffers = drop 1 p.buffers }
port_after (Transition.Miss e) p = record p { missed = true }
port_after d p = p

-- a transition on the queue with memory and the port, which says whether an event was missed, whatever units there are
pub record DoesAtPort (d : Transition) (q : PlainQueue) (m : List ℕ) (p : PlainPort) (q' : PlainQueue) (m' : List ℕ)
    (p' : PlainPort) : Type 0 where
  pub asks : (shared : Bool) (inventory : PlainInventory) → AsksQueue shared inventory p.missed d q m
  pub queue : q' ≡ queue_after d m q
  pub memory : m' ≡ bytes_after d m
  pub port : p' ≡ port_after d p

-- the port may hold one more buffer
abbrev pub MayHold : PlainPort → Type 0
MayHold p = length p.buffers < p.limit

-- nothing changed
pub record StaysAtPort (q : PlainQueue) (m : List ℕ) (p : PlainPort) (q' : PlainQueue) (m' : List ℕ)
    (p' : PlainPort) : Type 0 where
  pub queue : q' ≡ q
  pub memory : m' ≡ m
  pub port : p' ≡ p

-- a buffer is held, or was used at once, or a fault broke the queue; nothing was there; or memory was refused
abbrev pub FetchesEvent : PlainQueue → List ℕ → PlainPort → Result Bool NoMemory → PlainQueue → List ℕ → PlainPort
    → Type 0
FetchesEvent q m p (Ok true) q' m' p' =
    (q.ring.queue ≡ 1) × IsFree q m × ((d : Transition) × IsEventFetch d × DoesAtPort d q m p q' m' p')
FetchesEvent q m p (Ok false) q' m' p' =
    StaysAtPort q m p q' m' p' × (q.ring.queue ≡ 1 → MayHold p → HasSome q m → ⊥)
FetchesEvent q m p (Err e) q' m' p' =
    StaysAtPort q m p q' m' p' × (q.ring.queue ≡ 1) × IsFree q m × MayLackMemory q.ring m

-- Raise

-- nothing changed
pub record StaysRaised (q : BareQueue) (m : List ℕ) (p : PlainPort) (w : List EventRecord) (q' : BareQueue) (m' : List ℕ)
    (p' : PlainPort) (w' : List EventRecord) : Type 0 where
  pub at_queue : StaysQueue q q' m m'
  pub port : p' ≡ p
  pub waiting : w' ≡ w

-- the event goes to the oldest buffer, or is missed; where the memory isn't the queue's, or the queue doesn't own the
-- buffer, nothing is changed
abbrev pub RaisesTo : List PlainChain → EventRecord → List EventRecord → BareQueue → List ℕ → PlainPort → Bool → BareQueue
    → List ℕ → PlainPort
    → List EventRecord → Type 0
RaisesTo (c ∷ more) e later q m p true q' m' p' w' =
    AtQueue (Transition.Give e c (as_left m (answer_writes q.ring c (event_bytes e)))) q m q' m'
    × (p' ≡ port_after (Transition.Give e c (as_left m (answer_writes q.ring c (event_bytes e)))) p) × (w' ≡ later)
RaisesTo (c ∷ more) e later q m p false q' m' p' w' =
    (MayComplete q m c → ⊥) × StaysRaised q m p (e ∷ later) q' m' p' w'
RaisesTo [] e later q m p true q' m' p' w' = StaysQueue q q' m m' × (p' ≡ port_after (Transition.Miss e) p) × (w' ≡ later)
RaisesTo [] e later q m p false q' m' p' w' = ⊥

abbrev pub RaisesNext : List EventRecord → BareQueue → List ℕ → PlainPort → Bool → BareQueue → List ℕ → PlainPort
    → List EventRecord → Type 0
RaisesNext (e ∷ later) q m p result q' m' p' w' = RaisesTo p.buffers e later q m p result q' m' p' w'
RaisesNext [] q m p true q' m' p' w' = ⊥
RaisesNext [] q m p false q' m' p' w' = StaysRaised q m p [] q' m' p' w'
