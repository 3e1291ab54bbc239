-- What a fetch does is a turn of its event, and each ring keeps its memory.
use Rattle.std.proofs.Common.{◌≡◌, ◌≤◌, ℕ, zero, suc, Bool, true, false, List, length, Option, Some, None, Result, Ok, Err, sym, ap, ◌∙◌, arith, inl, inr}
use Rattle.std.specs.Prelude.{slice_get, slice_set}
use Rattle.foundation.specs.declared.NoMemory.{NoMemory}
use Rattle.request_intake.specs.Inventory.{PlainInventory}
use Rattle.device_model.specs.Parts.{Outcome, Slot}
use Rattle.device_model.specs.World.{PlainQueue, PlainWorld, Opened, change}
use Rattle.device_model.specs.Events.{Event}
use Rattle.device_model.specs.Transitions.{Transition}
use Rattle.device_model.specs.Changing.{arriving, taking, broken_by}
use Rattle.device_model.specs.Event.Fetch.{MayFetch}
use Rattle.device_model.specs.Event.Fetch.{IsOpenTo}
use Rattle.device_model.specs.Turns.{Turns}
use Rattle.device_model.proofs.Joining.{joins}
use Rattle.device_model.proofs.Lists.{same}
use Rattle.phases.specs.DoingQueue.{DoesQueue}
use Rattle.phases.specs.Fetching.{HasSome, IsRequestFetch, FetchesRequest, IsControlFetch, FetchesControl, opens}
use Rattle.device_steps.specs.Inner.Steps.{TurnsOrWants}
use Rattle.device_steps.proofs.Setting.{set_same}
use Rattle.device_steps.proofs.Placing.{set_as}
use Rattle.device_steps.specs.Inner.Sound.{IsSound}
use Rattle.device_steps.proofs.Memories.{keeps_memory}

-- the world with these queues
abbrev pub with_queues : List PlainQueue → PlainWorld → PlainWorld
with_queues qs w = record w { queues = qs }

-- and with this function
abbrev pub with_both : List PlainQueue → Option Opened → PlainWorld → PlainWorld
with_both qs f w = record w { queues = qs; function = f }

-- a request queue is open whatever function is
open_request : (w : PlainWorld) (i : ℕ) → 2 ≤ i → IsOpenTo w i
open_request w zero h = absurd (omega (arith, h))
open_request w (suc i) h = tt

-- the control queue is open where no function is
open_at_zero : (w : PlainWorld) (i : ℕ) → i ≡ 0 → w.function ≡ None → IsOpenTo w i
open_at_zero w zero e h = h
open_at_zero w (suc i) e h = tt

-- a queue stands at its index under any equal number
pub at_number : (w : PlainWorld) (i j : ℕ) (q : PlainQueue) → slice_get w.queues i ≡ Some q → j ≡ i
    → slice_get w.queues j ≡ Some q
at_number w i j q at e = ap (λ k. slice_get w.queues k) e ∙ at

-- a fetch of a request queue with its transition is a turn
request_transition : (w : PlainWorld) (i : ℕ) (q q' : PlainQueue) (d : Transition) → 2 ≤ i → slice_get w.queues i ≡ Some q
    → q.slot ≡ Slot.Empty → IsRequestFetch i d → DoesQueue w.inventory d q w.memory q' w.memory
    → Turns w (Event.Fetch i) true (with_queues (slice_set w.queues i q') w)
request_transition w i q q' (Transition.Arrive f x) two at empty of does =
    let here = at_number w i f.chain.ticket.queue q at of in
    let d = Transition.Arrive f x in (
      d,
      ap (λ n. Event.Fetch n) of,
      joins d w ((q, here, empty), omega (arith, two, of)) tt (q, here, does.asks w.shared w.missed),
      ap (λ qs. with_queues qs w)
          (set_as (arriving f.chain (Slot.Arrived x)) i f.chain.ticket.queue w.queues q q' at does.queue of),
    )
request_transition w i q q' (Transition.Refuse f a) two at empty of does =
    let here = at_number w i f.chain.ticket.queue q at of in
    let above : 2 ≤ f.chain.ticket.queue = omega (arith, two, of) in
    let d = Transition.Refuse f a in (
      d,
      ap (λ n. Event.Fetch n) of,
      joins d w ((q, here, empty), open_request w f.chain.ticket.queue above, inr above) tt
          (q, here, does.asks w.shared w.missed),
      ap (λ qs. with_queues qs w)
          (set_as (arriving f.chain (Slot.Direct f.chain (Outcome.Decided a))) i f.chain.ticket.queue w.queues q q' at
          does.queue of),
    )
request_transition w i q q' (Transition.Break n fault) two at empty of does =
    let here = at_number w i n q at of in
    let above : 2 ≤ n = omega (arith, two, of) in
    let d = Transition.Break n fault in (
      d,
      ap (λ n. Event.Fetch n) of,
      joins d w ((q, here, empty), open_request w n above) tt (q, here, does.asks w.shared w.missed),
      ap (λ qs. with_queues qs w) (set_as (broken_by fault) i n w.queues q q' at does.queue of),
    )
request_transition w i q q' d two at empty of does = absurd of

-- a queue that is given back as it was changes nothing
same_queues : (w : PlainWorld) (i : ℕ) (q q' : PlainQueue) → slice_get w.queues i ≡ Some q → q' ≡ q
    → with_queues (slice_set w.queues i q') w ≡ w
same_queues w i q q' at e =
    ap (λ qs. with_queues qs w) (ap (λ z. slice_set w.queues i z) e ∙ set_same i w.queues q at)

-- an event that might fetch finds this queue with something for the device
pub has_some : (w : PlainWorld) (i : ℕ) (q : PlainQueue) → slice_get w.queues i ≡ Some q
    → length w.memory ≡ q.ring.memory → MayFetch w i → HasSome q w.memory
has_some w i q at fits h =
    let is : q ≡ h.queue = same (sym at ∙ h.there) in
    record {
      free = record { empty = ap (λ (z : PlainQueue). z.slot) is ∙ h.empty; fits = fits };
      whole = ap (λ (z : PlainQueue). z.ring.broken) is ∙ h.whole;
      has_some = λ n. h.has_some (rw (← is) n);
    }

-- what a fetch of a request queue does is a turn of its event, or memory was refused
pub request_turns : (w : PlainWorld) (i : ℕ) (q q' : PlainQueue) (r : Result Bool NoMemory) → IsSound w → 2 ≤ i
    → slice_get w.queues i ≡ Some q → q.ring.memory ≡ length w.memory
    → FetchesRequest w.inventory w.memory q r q'
    → TurnsOrWants w (Event.Fetch i) r (with_queues (slice_set w.queues i q') w)
request_turns w i q q' (Ok true) sound two at fits h =
    let number = (sound.numbered i q at).queue in
    request_transition w i q q' h.2.0 two at h.1.empty (rw number at h.2.1) h.2.2
request_turns w i q q' (Ok false) sound two at fits h =
    let number = (sound.numbered i q at).queue in
    (same_queues w i q q' at h.0, λ may. h.1 (omega (arith, two, number)) (has_some w i q at (sym fits) may))
request_turns w i q q' (Err e) sound two at fits h = (
  record { queue = q; there = at; empty = h.2.empty; opened = open_request w i two; wants = h.3 },
  same_queues w i q q' at h.0,
)

-- and the ring keeps its memory
pub request_memory : (inventory : PlainInventory) (m : List ℕ) (q q' : PlainQueue) (r : Result Bool NoMemory)
    → FetchesRequest inventory m q r q' → q'.ring.memory ≡ q.ring.memory
request_memory inventory m q q' (Ok true) h =
    ap (λ (z : PlainQueue). z.ring.memory) h.2.2.queue ∙ keeps_memory h.2.0 m q
request_memory inventory m q q' (Ok false) h = ap (λ (z : PlainQueue). z.ring.memory) h.0
request_memory inventory m q q' (Err e) h = ap (λ (z : PlainQueue). z.ring.memory) h.0

-- a fetch of the control queue with its transition is a turn
control_transition : (w : PlainWorld) (k : ℕ) (q q' : PlainQueue) (f' : Option Opened) (d : Transition) → k ≡ 0
    → slice_get w.queues k ≡ Some q → q.slot ≡ Slot.Empty → w.function ≡ None → IsControlFetch d
    → DoesQueue w.inventory d q w.memory q' w.memory → f' ≡ opens d
    → Turns w (Event.Fetch 0) true (with_both (slice_set w.queues k q') f' w)
control_transition w k q q' f' (Transition.Refuse f a) first at empty none of does is =
    let here = at_number w k f.chain.ticket.queue q at (of ∙ sym first) in
    let d = Transition.Refuse f a in
    let set =
    set_as (arriving f.chain (Slot.Direct f.chain (Outcome.Decided a))) k f.chain.ticket.queue w.queues q q' at
    does.queue (of ∙ sym first) in (
      d,
      ap (λ n. Event.Fetch n) of,
      joins d w ((q, here, empty), open_at_zero w f.chain.ticket.queue of none, inl of) tt
          (q, here, does.asks w.shared w.missed),
      ap (λ qs. with_both qs f' w) set
          ∙ ap (λ g. with_both (change (arriving f.chain (Slot.Direct f.chain (Outcome.Decided a)))
          f.chain.ticket.queue w.queues) g w) (is ∙ sym none),
    )
control_transition w k q q' f' (Transition.Open f g) first at empty none of does is =
    let here = at_number w k f.chain.ticket.queue q at (of ∙ sym first) in
    let d = Transition.Open f g in
    let set = set_as (taking f.chain) k f.chain.ticket.queue w.queues q q' at does.queue (of ∙ sym first) in (
      d,
      ap (λ n. Event.Fetch n) of,
      joins d w ((q, here, empty), none, of) tt (q, here, does.asks w.shared w.missed),
      ap (λ qs. with_both qs f' w) set
          ∙ ap (λ o. with_both (change (taking f.chain) f.chain.ticket.queue w.queues) o w) is,
    )
control_transition w k q q' f' (Transition.Break n fault) first at empty none of does is =
    let here = at_number w k n q at (of ∙ sym first) in
    let d = Transition.Break n fault in
    let set = set_as (broken_by fault) k n w.queues q q' at does.queue (of ∙ sym first) in (
      d,
      ap (λ n. Event.Fetch n) of,
      joins d w ((q, here, empty), open_at_zero w n of none) tt (q, here, does.asks w.shared w.missed),
      ap (λ qs. with_both qs f' w) set
          ∙ ap (λ g. with_both (change (broken_by fault) n w.queues) g w) (is ∙ sym none),
    )
control_transition w k q q' f' d first at empty none of does is = absurd of

-- what a fetch of the control queue does is a turn of its event, or memory was refused
pub control_turns : (w : PlainWorld) (k : ℕ) (q q' : PlainQueue) (f' : Option Opened) (r : Result Bool NoMemory)
    → IsSound w → k ≡ 0 → slice_get w.queues k ≡ Some q → q.ring.memory ≡ length w.memory
    → FetchesControl w.inventory w.memory q w.function r q' f'
    → TurnsOrWants w (Event.Fetch 0) r (with_both (slice_set w.queues k q') f' w)
control_turns w k q q' f' (Ok true) sound first at fits h =
    control_transition w k q q' f' h.3.0 first at h.1.empty h.2 h.3.1 h.3.2 h.3.3
control_turns w k q q' f' (Ok false) sound first at fits h = (
  ap (λ g. with_both (slice_set w.queues k q') g w) h.1 ∙ same_queues w k q q' at h.0,
  λ may.
      h.2 ((sound.numbered k q at).queue ∙ first) may.opened
      (has_some w 0 q (at_number w k 0 q at (sym first)) (sym fits) may),
)
control_turns w k q q' f' (Err e) sound first at fits h = (
  record {
    queue = q;
    there = at_number w k 0 q at (sym first);
    empty = h.4.empty;
    opened = h.3;
    wants = h.5;
  },
  ap (λ g. with_both (slice_set w.queues k q') g w) h.1 ∙ same_queues w k q q' at h.0,
)
