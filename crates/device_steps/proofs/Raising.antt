-- What the raising of an event does is a turn of it, and the port keeps its size.
use Rattle.std.proofs.Common.{◌≡◌, ℕ, Bool, true, false, List, [], ◌∷◌, length, Some, refl, sym, ap, ◌∙◌, subst}
use Rattle.std.specs.Prelude.{slice_get, slice_set, drop}
use Rattle.std.specs.List.{AllByRecursion}
use Rattle.scsi_codec.specs.declared.event_queue.Event.{Event as EventRecord}
use Rattle.scsi_codec.specs.EventQueue.{event_bytes}
use Rattle.ring_core.specs.State.{PlainChain}
use Rattle.ring_core.specs.Writes.{Write, all_written}
use Rattle.event_queue.specs.Port.{PlainPort}
use Rattle.device_model.specs.Parts.{Slot, answer_writes}
use Rattle.device_model.specs.World.{PlainQueue, PlainWorld, change}
use Rattle.device_model.specs.Events.{Event}
use Rattle.device_model.specs.Transitions.{Transition}
use Rattle.device_model.specs.Changing.{completing}
use Rattle.device_model.specs.Standing.{IsOwned}
use Rattle.device_model.proofs.Joining.{joins}
use Rattle.device_model.proofs.Lists.{same}
use Rattle.virtqueue.specs.Queue.{BareQueue, MayComplete}
use Rattle.phases.specs.Queue.{with_slot}
use Rattle.phases.specs.Inner.Stored.{raised_writes}
use Rattle.phases.specs.Inner.InMemory.{as_seen}
use Rattle.phases.specs.Inner.EventsInMemory.{RaisesNextIn, RaisesToIn, StaysRaisedIn}
use Rattle.device_steps.specs.Apart.{TurnsSeen}
use Rattle.device_steps.specs.Inner.Sound.{IsSound}
use Rattle.device_steps.proofs.Setting.{set_same}
use Rattle.device_steps.proofs.Placing.{set_as}

-- the world with this memory, these queues, this port and these events that wait
abbrev pub with_raised : List ℕ → List PlainQueue → PlainPort → List EventRecord → PlainWorld → PlainWorld
with_raised m qs p x w =
    record w { memory = m; queues = qs; buffers = p.buffers; missed = p.missed; waiting = x }

-- no list with an item is empty
none_there : {X : Type 0} {x : X} {xs : List X} → [] ≡ x ∷ xs → ⊥
none_there e = cc

module _ (w : PlainWorld) (k : ℕ) (s : Slot) (l l' : BareQueue) (m' n : List ℕ) (p p' : PlainPort) (x' : List EventRecord)
    (second : k ≡ 1) (at : slice_get w.queues k ≡ Some (with_slot s l)) (held : p.buffers ≡ w.buffers)
    (missed : p.missed ≡ w.missed) where
  -- by what the parts are
  parts_are : (m : List ℕ) (qs : List PlainQueue) (z : PlainPort) (x : List EventRecord) → m' ≡ m
      → slice_set w.queues k (with_slot s l') ≡ qs → p' ≡ z → x' ≡ x
      → with_raised m' (slice_set w.queues k (with_slot s l')) p' x' w ≡ with_raised m qs z x w
  parts_are m qs z x a b c d =
      ap (λ m. with_raised m (slice_set w.queues k (with_slot s l')) p' x' w) a
      ∙ ap (λ qs. with_raised m qs p' x' w) b ∙ ap (λ z. with_raised m qs z x' w) c
      ∙ ap (λ x. with_raised m qs z x w) d

  -- where nothing was changed the world is as it was
  still : (x : List EventRecord) → w.waiting ≡ x → StaysRaisedIn l w.memory p x l' m' n p' x'
      → with_raised m' (slice_set w.queues k (with_slot s l')) p' x' w ≡ w
  still x waits h =
      parts_are w.memory w.queues p w.waiting h.at_queue.memory
      (ap (λ z. slice_set w.queues k (with_slot s z)) h.at_queue.queue ∙ set_same k w.queues (with_slot s l) at) h.port
      (h.waiting ∙ sym waits)
      ∙ ap (λ (b : List PlainChain). record w { buffers = b; missed = p.missed }) held
      ∙ ap (λ (b : Bool). record w { missed = b }) missed

  -- the queue owns a buffer that is held
  may_give : (c : PlainChain) → l.ring.memory ≡ length w.memory → (c.ticket.queue ≡ 1) × IsOwned w c
      → MayComplete l w.memory c
  may_give c fits h =
      let is = same (sym h.1.there ∙ ap (λ i. slice_get w.queues i) (h.0 ∙ sym second) ∙ at) in
      record { fits = sym fits; owned = rw (ap (λ (q : PlainQueue). q.ring) is) at h.1.owned }

  -- by the buffers that are held
  raises_to : (stored : List Write → Type 0) (cs : List PlainChain) (e : EventRecord) (later : List EventRecord) (r : Bool) → p.buffers ≡ cs
      → w.waiting ≡ e ∷ later → l.ring.memory ≡ length w.memory
      → AllByRecursion (λ (c : PlainChain). (c.ticket.queue ≡ 1) × IsOwned w c) cs
      → stored (raised_writes (e ∷ later) cs l.ring r) → RaisesToIn w.shared cs e later l w.memory p r l' m' n p' x'
      → TurnsSeen stored n w Event.Raise r (with_raised m' (slice_set w.queues k (with_slot s l')) p' x' w)
  raises_to stored (c ∷ more) e later true has waits fits owned wrote h =
      let xs = answer_writes l.ring c (event_bytes e) in
      let m = all_written w.memory xs in
      let d = Transition.Give e c (as_seen n xs) in
      let does = h.0 w.inventory s in
      let first = owned.0.0 ∙ sym second in
      let here : slice_get w.queues c.ticket.queue ≡ Some (with_slot s l) = ap (λ i. slice_get w.queues i) first ∙ at in
      let qs = change (completing n c) c.ticket.queue w.queues in
      let set = set_as (completing n c) k c.ticket.queue w.queues (with_slot s l) (with_slot s l') at does.queue first in (
        d,
        refl,
        joins d w (record { later = later; waits = waits; more = more; held = sym held ∙ has }) tt
            (with_slot s l, here, does.asks w.missed),
        parts_are m qs _ later does.memory set h.1 h.2
            ∙ ap (λ (b : List PlainChain). record w {
              memory = m;
              queues = qs;
              buffers = drop 1 b;
              missed = p.missed;
              waiting = later;
            }) held
            ∙ ap (λ (b : Bool). record w {
              memory = m;
              queues = qs;
              buffers = drop 1 w.buffers;
              missed = b;
              waiting = later;
            }) missed
            ∙ ap (λ (x : List EventRecord). record w {
              memory = m;
              queues = qs;
              buffers = drop 1 w.buffers;
              waiting = drop 1 x;
            }) (sym waits),
        refl,
        wrote,
      )
  raises_to stored (c ∷ more) e later false has waits fits owned wrote h = absurd (h.0 (may_give c fits owned.0))
  raises_to stored [] e later true has waits fits owned wrote h =
      let d = Transition.Miss e in (
        d,
        refl,
        joins d w (record { later = later; waits = waits; none = sym held ∙ has }) tt tt,
        parts_are w.memory w.queues _ later h.0.memory
            (ap (λ z. slice_set w.queues k (with_slot s z)) h.0.queue ∙ set_same k w.queues (with_slot s l) at) h.1 h.2
            ∙ ap (λ (b : List PlainChain). record w { buffers = b; missed = true; waiting = later }) held
            ∙ ap (λ (x : List EventRecord). record w { missed = true; waiting = drop 1 x }) (sym waits),
        h.0.seen ∙ sym h.0.memory,
        wrote,
      )
  raises_to stored [] e later false has waits fits owned wrote h = absurd h

  -- by the events that wait
  pub raises : (stored : List Write → Type 0) (x : List EventRecord) (r : Bool) → w.waiting ≡ x → IsSound w → l.ring.memory ≡ length w.memory
      → stored (raised_writes x p.buffers l.ring r) → RaisesNextIn w.shared x l w.memory p r l' m' n p' x'
      → TurnsSeen stored n w Event.Raise r (with_raised m' (slice_set w.queues k (with_slot s l')) p' x' w)
  raises stored (e ∷ later) r waits sound fits wrote h =
      raises_to stored p.buffers e later r refl waits fits
      (subst (λ cs. AllByRecursion (λ (c : PlainChain). (c.ticket.queue ≡ 1) × IsOwned w c) cs) (sym held) sound.owned.buffers)
      wrote h
  raises stored [] true waits sound fits wrote h = absurd h
  raises stored [] false waits sound fits wrote h =
      (still [] waits h, λ may. none_there (sym waits ∙ may.2), h.at_queue.seen, wrote)

-- the port keeps how many buffers it may hold
to_limit : (shared : Bool) (cs : List PlainChain) (e : EventRecord) (later : List EventRecord) (l l' : BareQueue)
    (m m' n : List ℕ) (p p' : PlainPort) (x' : List EventRecord) (r : Bool)
    → RaisesToIn shared cs e later l m p r l' m' n p' x' → p'.limit ≡ p.limit
to_limit shared (c ∷ more) e later l l' m m' n p p' x' true h = ap (λ (z : PlainPort). z.limit) h.1
to_limit shared (c ∷ more) e later l l' m m' n p p' x' false h = ap (λ (z : PlainPort). z.limit) h.1.port
to_limit shared [] e later l l' m m' n p p' x' true h = ap (λ (z : PlainPort). z.limit) h.1
to_limit shared [] e later l l' m m' n p p' x' false h = absurd h

pub raise_limit : (shared : Bool) (x : List EventRecord) (l l' : BareQueue) (m m' n : List ℕ) (p p' : PlainPort)
    (x' : List EventRecord) (r : Bool) → RaisesNextIn shared x l m p r l' m' n p' x' → p'.limit ≡ p.limit
raise_limit shared (e ∷ later) l l' m m' n p p' x' r h = to_limit shared p.buffers e later l l' m m' n p p' x' r h
raise_limit shared [] l l' m m' n p p' x' true h = absurd h
raise_limit shared [] l l' m m' n p p' x' false h = ap (λ (z : PlainPort). z.limit) h.port
