-- What the phases do on the event queue in a memory that nobody else writes, where it is seen as it was left.
use Rattle.std.proofs.Common.{◌≡◌, ℕ, Bool, true, false, List, [], ◌∷◌, Result, Ok, Err, subst}
use Rattle.foundation.specs.declared.NoMemory.{NoMemory}
use Rattle.scsi_codec.specs.declared.event_queue.Event.{Event as EventRecord}
use Rattle.scsi_codec.specs.EventQueue.{event_bytes}
use Rattle.ring_core.specs.State.{PlainChain}
use Rattle.ring_core.specs.Writes.{Write, all_written}
use Rattle.event_queue.specs.Port.{PlainPort}
use Rattle.device_model.specs.Parts.{Slot, answer_writes}
use Rattle.device_model.specs.World.{PlainQueue}
use Rattle.device_model.specs.Transitions.{Transition}
use Rattle.virtqueue.specs.Queue.{BareQueue}
use Rattle.phases.specs.Queue.{with_slot}
use Rattle.phases.specs.Direct.{StaysQueue}
use Rattle.phases.specs.DoingQueue.{AtQueue}
use Rattle.phases.specs.EventQueue.{StaysRaised, FetchesEvent, RaisesTo, RaisesNext}
use Rattle.phases.specs.Inner.InMemory.{StaysQueueIn, as_seen}
use Rattle.phases.specs.Inner.EventsInMemory.{StaysRaisedIn, FetchesEventIn, RaisesToIn, RaisesNextIn}
use Rattle.phases.proofs.Behind.{asks_any, does_own}

-- a queue that stays
stays_own : (q q' : BareQueue) (m m' n : List ℕ) → StaysQueueIn q q' m m' n → StaysQueue q q' m m'
stays_own q q' m m' n stays = record { queue = stays.queue; memory = stays.memory }

-- a fetch from the event queue
pub fetches_own : (stored : List Write → Type 0) (q q' : PlainQueue) (m m' n : List ℕ) (p p' : PlainPort) (r : Result Bool NoMemory)
    → FetchesEventIn false stored q m p r q' m' n p' → FetchesEvent q m p r q' m' p'
fetches_own stored q q' m m' n p p' (Ok true) (event, free, (d, is, does, made)) = (
  event,
  free,
  (
    d,
    is,
    record {
      asks = λ shared inventory. asks_any shared inventory p.missed d q m (does.asks inventory);
      queue = does.queue;
      memory = does.memory;
      port = does.port;
    },
  ),
)
fetches_own stored q q' m m' n p p' (Ok false) (stays, none, made) =
    (record { queue = stays.queue; memory = stays.memory; port = stays.port }, none)
fetches_own stored q q' m m' n p p' (Err e) (stays, event, free, lacks, made) =
    (record { queue = stays.queue; memory = stays.memory; port = stays.port }, event, free, lacks)

-- nothing raised
raised_own : (q q' : BareQueue) (m m' n : List ℕ) (p p' : PlainPort) (w w' : List EventRecord)
    → StaysRaisedIn q m p w q' m' n p' w' → StaysRaised q m p w q' m' p' w'
raised_own q q' m m' n p p' w w' stays =
    record { at_queue = stays_own q q' m m' n stays.at_queue; port = stays.port; waiting = stays.waiting }

-- an event that is raised
raises_to_own : (cs : List PlainChain) (e : EventRecord) (later : List EventRecord) (q q' : BareQueue) (m m' n : List ℕ)
    (p p' : PlainPort) (r : Bool) (w' : List EventRecord) → RaisesToIn false cs e later q m p r q' m' n p' w'
    → RaisesTo cs e later q m p r q' m' p' w'
raises_to_own (c ∷ more) e later q q' m m' n p p' true w' (does, port, waiting) =
    let xs : List Write = answer_writes q.ring c (event_bytes e) in
    let seen : n ≡ all_written m xs = ((does (record { addresses = []; profiles = [] }) Slot.Empty).asks false).1 in (
      subst (λ k. AtQueue (Transition.Give e c (as_seen k xs)) q m q' m') seen (λ inventory s.
          does_own inventory (Transition.Give e c (as_seen n xs)) (with_slot s q) (with_slot s q') m m' (does inventory s)),
      port,
      waiting,
    )
raises_to_own (c ∷ more) e later q q' m m' n p p' false w' (why, stays) =
    (why, raised_own q q' m m' n p p' (e ∷ later) w' stays)
raises_to_own [] e later q q' m m' n p p' true w' (stays, port, waiting) = (stays_own q q' m m' n stays, port, waiting)
raises_to_own [] e later q q' m m' n p p' false w' raises = absurd raises

pub raises_own : (w : List EventRecord) (q q' : BareQueue) (m m' n : List ℕ) (p p' : PlainPort) (r : Bool)
    (w' : List EventRecord) → RaisesNextIn false w q m p r q' m' n p' w' → RaisesNext w q m p r q' m' p' w'
raises_own (e ∷ later) q q' m m' n p p' r w' raises = raises_to_own p.buffers e later q q' m m' n p p' r w' raises
raises_own [] q q' m m' n p p' true w' raises = absurd raises
raises_own [] q q' m m' n p p' false w' stays = raised_own q q' m m' n p p' [] w' stays
