-- What a fetch of the event queue does is a turn of its event, and the port keeps its size.
use Rattle.std.proofs.Common.{◌≡◌, ◌≤◌, ℕ, zero, suc, Bool, true, false, List, [], ◌∷◌, ◌++◌, length, Some, Result, Ok, Err, refl, sym, ap, ◌∙◌, subst, arith}
use Rattle.std.specs.Prelude.{slice_get, slice_set, ◌&&◌}
use Rattle.foundation.specs.declared.NoMemory.{NoMemory}
use Rattle.ring_core.specs.State.{PlainChain}
use Rattle.ring_core.specs.Writes.{Write, all_written}
use Rattle.ring_core.specs.Sound as ring
use Rattle.event_queue.specs.Port.{PlainPort}
use Rattle.device_model.specs.Parts.{Slot, is_short}
use Rattle.device_model.specs.World.{PlainQueue, PlainWorld, change}
use Rattle.device_model.specs.Events.{Event}
use Rattle.device_model.specs.Transitions.{Transition, completion_of}
use Rattle.device_model.specs.Changing.{taking, spending, broken_by}
use Rattle.device_model.specs.Event.Fetch.{IsOpenTo}
use Rattle.device_model.specs.Phases.{AsksQueue}
use Rattle.device_model.proofs.Joining.{joins}
use Rattle.phases.specs.EventQueue.{IsEventFetch, MayHold, port_after}
use Rattle.phases.specs.Inner.Stored.{writes_of}
use Rattle.phases.specs.Inner.EventsInMemory.{DoesAtPortIn, FetchesEventIn, StaysAtPortIn}
use Rattle.device_steps.specs.Apart.{TurnsSeen, TurnsSeenOrWants}
use Rattle.device_steps.specs.Sound.{AreFew, size_of}
use Rattle.device_steps.specs.Inner.Sound.{IsSound}
use Rattle.device_steps.proofs.Setting.{map_get, set_same}
use Rattle.device_steps.proofs.Placing.{set_as}
use Rattle.device_steps.proofs.Fetches.{at_number, has_some}

-- the world with this memory, these queues and this port
abbrev pub with_port : List ℕ → List PlainQueue → PlainPort → PlainWorld → PlainWorld
with_port m qs p w = record w { memory = m; queues = qs; buffers = p.buffers; missed = p.missed }

-- the event queue is open whatever function is
open_event : (w : PlainWorld) (i : ℕ) → i ≡ 1 → IsOpenTo w i
open_event w zero e = absurd (omega (arith, e))
open_event w (suc i) e = tt

module _ (w : PlainWorld) (k : ℕ) (q q' : PlainQueue) (m' n : List ℕ) (p p' : PlainPort) (second : k ≡ 1)
    (at : slice_get w.queues k ≡ Some q) (held : p.buffers ≡ w.buffers) (missed : p.missed ≡ w.missed) where
  -- what the transition asks where the port's word stands for the world's
  asked : (d : Transition) → AsksQueue w.shared w.inventory p.missed d q w.memory
      → AsksQueue w.shared w.inventory w.missed d q w.memory
  asked d h = subst (λ b. AsksQueue w.shared w.inventory b d q w.memory) missed h

  -- the world afterwards, where only these parts changed
  abbrev changed : List ℕ → List PlainQueue → PlainPort → PlainWorld
  changed m qs z = record w { memory = m; queues = qs; buffers = z.buffers; missed = z.missed }

  -- by what the parts are
  parts_are : (m : List ℕ) (qs : List PlainQueue) (z : PlainPort) → m' ≡ m → slice_set w.queues k q' ≡ qs → p' ≡ z
      → with_port m' (slice_set w.queues k q') p' w ≡ changed m qs z
  parts_are m qs z a b c =
      ap (λ m. changed m (slice_set w.queues k q') p') a ∙ ap (λ qs. changed m qs p') b ∙ ap (λ z. changed m qs z) c

  -- a fetch with its transition is a turn
  event_transition : (stored : List Write → Type 0) (d : Transition) → q.slot ≡ Slot.Empty → IsEventFetch d
      → DoesAtPortIn w.shared d q w.memory p q' m' n p' → stored (writes_of (completion_of d))
      → TurnsSeen stored n w (Event.Fetch 1) true (with_port m' (slice_set w.queues k q') p' w)
  event_transition stored (Transition.Hold f) empty of does wrote =
      let d = Transition.Hold f in
      let here = at_number w k f.chain.ticket.queue q at (of ∙ sym second) in
      let set = set_as (taking f.chain) k f.chain.ticket.queue w.queues q q' at does.queue (of ∙ sym second) in
      let qs = change (taking f.chain) f.chain.ticket.queue w.queues in (
        d,
        ap (λ n. Event.Fetch n) of,
        joins d w ((q, here, empty), of) tt (q, here, asked d (does.asks w.inventory)),
        parts_are w.memory qs _ does.memory set does.port
            ∙ ap (λ (b : List PlainChain). record w { queues = qs; buffers = b ++ f.chain ∷ []; missed = p.missed }) held
            ∙ ap (λ (b : Bool). record w { queues = qs; buffers = w.buffers ++ f.chain ∷ []; missed = b }) missed,
        does.sees,
        wrote,
      )
  event_transition stored (Transition.UseBuffer f xs) empty of does wrote =
      let d = Transition.UseBuffer f xs in
      let here = at_number w k f.chain.ticket.queue q at (of ∙ sym second) in
      let m = all_written w.memory xs.writes in
      let set = set_as (spending xs.seen f.chain) k f.chain.ticket.queue w.queues q q' at does.queue (of ∙ sym second) in
      let qs = change (spending xs.seen f.chain) f.chain.ticket.queue w.queues in (
        d,
        ap (λ n. Event.Fetch n) of,
        joins d w ((q, here, empty), of) tt (q, here, asked d (does.asks w.inventory)),
        parts_are m qs _ does.memory set does.port
            ∙ ap (λ (b : List PlainChain). record w { memory = m; queues = qs; buffers = b; missed = p.missed && is_short f.chain }) held
            ∙ ap (λ (b : Bool). record w { memory = m; queues = qs; missed = b && is_short f.chain }) missed,
        does.sees,
        wrote,
      )
  event_transition stored (Transition.Break n fault) empty of does wrote =
      let d = Transition.Break n fault in
      let here = at_number w k n q at (of ∙ sym second) in
      let set = set_as (broken_by fault) k n w.queues q q' at does.queue (of ∙ sym second) in
      let qs = change (broken_by fault) n w.queues in (
        d,
        ap (λ n. Event.Fetch n) of,
        joins d w ((q, here, empty), open_event w n of) tt (q, here, asked d (does.asks w.inventory)),
        parts_are w.memory qs _ does.memory set does.port
            ∙ ap (λ (b : List PlainChain). record w { queues = qs; buffers = b; missed = p.missed }) held
            ∙ ap (λ (b : Bool). record w { queues = qs; missed = b }) missed,
        does.sees,
        wrote,
      )
  event_transition stored d empty of does wrote = absurd of

  -- where nothing was changed the world is as it was
  event_still : StaysAtPortIn q w.memory p q' m' n p' → with_port m' (slice_set w.queues k q') p' w ≡ w
  event_still h =
      parts_are w.memory w.queues p h.memory (ap (λ z. slice_set w.queues k z) h.queue ∙ set_same k w.queues q at) h.port
      ∙ ap (λ (b : List PlainChain). record w { buffers = b; missed = p.missed }) held
      ∙ ap (λ (b : Bool). record w { missed = b }) missed

  -- what a fetch does is a turn of its event, or memory was refused
  pub event_turns : (stored : List Write → Type 0) (r : Result Bool NoMemory) → IsSound w → q.ring.memory ≡ length w.memory → MayHold p
      → FetchesEventIn w.shared stored q w.memory p r q' m' n p'
      → TurnsSeenOrWants stored n w (Event.Fetch 1) r (with_port m' (slice_set w.queues k q') p' w)
  event_turns stored (Ok true) sound fits room h =
      event_transition stored h.2.0 h.1.empty h.2.1 h.2.2 h.2.3
  event_turns stored (Ok false) sound fits room h = (
    event_still h.0,
    λ may.
        h.1 ((sound.numbered k q at).queue ∙ second) room
        (has_some w 1 q (at_number w k 1 q at (sym second)) (sym fits) may),
    h.0.sees,
    h.2,
  )
  event_turns stored (Err e) sound fits room h = (
    record {
      queue = q;
      there = at_number w k 1 q at (sym second);
      empty = h.2.empty;
      opened = tt;
      wants = h.3;
    },
    event_still h.0,
    h.0.sees,
    h.4,
  )

-- a transition keeps how many buffers the port may hold
limit_after : (d : Transition) (p : PlainPort) → (port_after d p).limit ≡ p.limit
limit_after (Transition.Hold f) p = refl
limit_after (Transition.UseBuffer f xs) p = refl
limit_after (Transition.Give e c xs) p = refl
limit_after (Transition.Miss e) p = refl
limit_after d p = refl

-- and so does a fetch
pub event_limit : (shared : Bool) (stored : List Write → Type 0) (q q' : PlainQueue) (m m' n : List ℕ) (p p' : PlainPort)
    (r : Result Bool NoMemory) → FetchesEventIn shared stored q m p r q' m' n p' → p'.limit ≡ p.limit
event_limit shared stored q q' m m' n p p' (Ok true) h = ap (λ (z : PlainPort). z.limit) h.2.2.port ∙ limit_after h.2.0 p
event_limit shared stored q q' m m' n p p' (Ok false) h = ap (λ (z : PlainPort). z.limit) h.0.port
event_limit shared stored q q' m m' n p p' (Err e) h = ap (λ (z : PlainPort). z.limit) h.0.port

-- the port may hold one more buffer
pub may_hold : (w : PlainWorld) (k : ℕ) (q : PlainQueue) (p : PlainPort) → IsSound w → AreFew w → k ≡ 1
    → slice_get w.queues k ≡ Some q → p.buffers ≡ w.buffers → p.limit ≡ 1025 → ring.IsSound q.ring
    → ring.outstanding_count q.ring ≤ q.ring.layout.size → MayHold p
may_hold w k q p sound few second at held limit rings bound =
    let one = sound.held q (at_number w k 1 q at (sym second)) in
    let size : q.ring.layout.size ≤ 1024 = few.sizes k (size_of q) (map_get size_of k w.queues q at) in
    let same_length : length p.buffers ≡ length w.buffers = ap (λ (b : List PlainChain). length b) held in
    omega (arith, one, size, same_length, rings.counted, bound, limit)
