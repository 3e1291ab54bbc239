-- What a transition lets apply.
use Rattle.std.proofs.Common.{◌≡◌, ℕ, ◌<◌, ◌≤◌, ◌+◌, Bool, true, false, not, ◌&&◌, eqb, cond, is_some, List, [], ◌∷◌, ◌++◌, length, Option, Some, None, refl, sym, ◌∙◌, ap, subst, arith, zero, suc, inl, inr}
use Rattle.std.specs.Prelude.{slice_get, ◌⊎◌}
use Rattle.std.specs.List.{list_all}
use Rattle.std.proofs.lemmas.Bool.{eqb-true}
use Rattle.ring_core.specs.Offer.{Offers, Nothing}
use Rattle.ring_core.specs.State.{PlainChain}
use Rattle.ring_core.specs.declared.log.Ticket.{Ticket}
use Rattle.unit_model.specs.Endings.{Ending}
use Rattle.unit_model.specs.Tasks.{Entry, same_ticket, task_of}
use Rattle.unit_model.specs.Steps.{Step, alive, is_alive}
use Rattle.unit_model.specs.Clearing.{met_by, met_at, is_clear}
use Rattle.unit_model.specs.Jobs.{PlainJob}
use Rattle.unit_model.specs.Unit.{PlainUnit, after as stepped, parking, dealing}
use Rattle.task_mgmt.specs.Functions.{PlainFunction, marking, next_look, asking, failing, checking}
use Rattle.task_mgmt.specs.declared.function.Mark.{Mark as MarkAt}
use Rattle.device_model.specs.Parts.{Outcome, Slot, Hand, lengths_of}
use Rattle.device_model.specs.World.{PlainQueue, Seat, Opened, PlainWorld, change, owner}
use Rattle.device_model.specs.Events.{Event}
use Rattle.device_model.specs.Transitions.{Transition}
use Rattle.device_model.specs.Changing.{arriving, taking, slotted, broken_by, completing, directing, spending, with_hand, without_first, with_jobs, leaving, on_function}
use Rattle.device_model.specs.Event.Hard.{hard_code}
use Rattle.device_model.specs.After.{after}
use Rattle.device_model.specs.Happens.{Happens}
use Rattle.device_model.specs.Event.Fetch.{IsOpenTo}
use Rattle.device_model.specs.Applies.{Applies}
use Rattle.device_model.specs.Event.Fetch.{MayFetch}
use Rattle.device_model.specs.Event.HandOff.{MayPut, MayTake}
use Rattle.device_model.specs.Event.Mark.{MayMark}
use Rattle.device_model.specs.Event.Check.{MayCheck}
use Rattle.device_model.specs.Event.AnswerTmf.{MayRespond}
use Rattle.device_model.specs.Event.Wake.{MayResume}
use Rattle.device_model.proofs.Lists.{at_other, nothing, same}
use Rattle.device_model.proofs.Applying.{applies}
use Rattle.device_model.proofs.Deciding.{opened_there}
use Rattle.device_model.specs.Waking.{IsOwn, Wakes}

-- it applied before, or the transition wakes it
abbrev pub Either : PlainWorld → Transition → Event → Type 0
Either w d e = Applies w e ⊎ Wakes w d e

-- an item of a list of which one item is changed: that one, or it was there before
item_was : {X : Type 0} (g : X → X) (k : ℕ) (xs : List X) (i : ℕ) (y : X) → slice_get (change g k xs) i ≡ Some y
    → ((i ≡ k) × (x : X) × (slice_get xs k ≡ Some x) × (y ≡ g x)) ⊎ (slice_get xs i ≡ Some y)
item_was g k xs i y at =
    let o = at_other g k xs i y at in
    elim o.2 [
      | inl p ↦ inl (p.0, o.0, ap (λ j. slice_get xs j) (sym p.0) ∙ o.1, p.1)
      | inr p ↦ inr (o.1 ∙ ap (λ z. Some z) (sym p.1))
    ]

-- Slots

abbrev HasSlot : List PlainQueue → ℕ → Slot → Type 0
HasSlot qs i s = (q : PlainQueue) × (slice_get qs i ≡ Some q) × (q.slot ≡ s)

slot_was : (g : PlainQueue → PlainQueue) (k : ℕ) (qs : List PlainQueue) (i : ℕ) (s : Slot)
    → HasSlot (change g k qs) i s
    → ((i ≡ k) × (x : PlainQueue) × (slice_get qs k ≡ Some x) × ((g x).slot ≡ s)) ⊎ HasSlot qs i s
slot_was g k qs i s h =
    elim (item_was g k qs i h.0 h.1) [
      | inl p ↦ inl (p.0, p.1, p.2, ap (λ (z : PlainQueue). z.slot) (sym p.3) ∙ h.2)
      | inr at ↦ inr (h.0, at, h.2)
    ]

-- where the changed queue has another slot
slot_other : (g : PlainQueue → PlainQueue) (k : ℕ) (qs : List PlainQueue) (i : ℕ) (s t : Slot)
    → ((x : PlainQueue) → (g x).slot ≡ t) → (t ≡ s → ⊥) → HasSlot (change g k qs) i s → HasSlot qs i s
slot_other g k qs i s t is apart h =
    elim (slot_was g k qs i s h) [
      | inl p ↦ absurd (apart (sym (is p.1) ∙ p.3))
      | inr p ↦ p
    ]

-- where it keeps its slot
slot_kept : (g : PlainQueue → PlainQueue) (k : ℕ) (qs : List PlainQueue) (i : ℕ) (s : Slot)
    → ((x : PlainQueue) → (g x).slot ≡ x.slot) → HasSlot (change g k qs) i s → HasSlot qs i s
slot_kept g k qs i s is h =
    elim (slot_was g k qs i s h) [
      | inl p ↦ (p.1, ap (λ j. slice_get qs j) p.0 ∙ p.2, sym (is p.1) ∙ p.3)
      | inr p ↦ p
    ]

arrived_empty : {x : PlainJob} → Slot.Arrived x ≡ Slot.Empty → ⊥
arrived_empty e = cc

empty_arrived : {x : PlainJob} → Slot.Empty ≡ Slot.Arrived x → ⊥
empty_arrived e = cc

ready_empty : {c : PlainChain} {o : Outcome} → Slot.Direct c o ≡ Slot.Empty → ⊥
ready_empty e = cc

empty_direct : {c : PlainChain} {o : Outcome} → Slot.Empty ≡ Slot.Direct c o → ⊥
empty_direct e = cc

ready_arrived : {x : PlainJob} {c : PlainChain} {o : Outcome} → Slot.Direct c o ≡ Slot.Arrived x → ⊥
ready_arrived e = cc

arrived_direct : {x : PlainJob} {c : PlainChain} {o : Outcome} → Slot.Arrived x ≡ Slot.Direct c o → ⊥
arrived_direct e = cc

-- Enter

enter_wakes : (d : Transition) (w : PlainWorld) (i : ℕ) → Happens d w → Applies (after d w) (Event.Enter i)
    → Either w d (Event.Enter i)
enter_wakes (Transition.Arrive f x) w i m (y, h) =
    elim (slot_was (arriving f.chain (Slot.Arrived x)) f.chain.ticket.queue w.queues i (Slot.Arrived y) h) [
      | inl p ↦ inr (inl (ap Event.Enter p.0))
      | inr p ↦ inl (y, p)
    ]
enter_wakes (Transition.Refuse f a) w i m (y, h) =
    let t = Slot.Direct f.chain (Outcome.Decided a) in
    let g = arriving f.chain t in
    inl (y, slot_other g f.chain.ticket.queue w.queues i (Slot.Arrived y) t (λ x. refl) ready_arrived h)
enter_wakes (Transition.Open f g) w i m (y, h) =
    inl (y, slot_kept (taking f.chain) f.chain.ticket.queue w.queues i (Slot.Arrived y) (λ x. refl) h)
enter_wakes (Transition.Hold f) w i m (y, h) =
    inl (y, slot_kept (taking f.chain) f.chain.ticket.queue w.queues i (Slot.Arrived y) (λ x. refl) h)
enter_wakes (Transition.UseBuffer f xs) w i m (y, h) =
    let g = spending xs.seen f.chain in
    inl (y, slot_kept g f.chain.ticket.queue w.queues i (Slot.Arrived y) (λ x. refl) h)
enter_wakes (Transition.Break k n) w i m (y, h) =
    inl (y, slot_kept (broken_by n) k w.queues i (Slot.Arrived y) (λ x. refl) h)
enter_wakes (Transition.Run x) w i m (y, h) =
    let n = x.chain.ticket.queue in
    inl (y, slot_other (slotted Slot.Empty) n w.queues i (Slot.Arrived y) Slot.Empty (λ z. refl) empty_arrived h)
enter_wakes (Transition.Park x) w i m (y, h) =
    let n = x.chain.ticket.queue in
    inl (y, slot_other (slotted Slot.Empty) n w.queues i (Slot.Arrived y) Slot.Empty (λ z. refl) empty_arrived h)
enter_wakes (Transition.EnterFull x) w i m (y, h) =
    let t = Slot.Direct x.chain (Outcome.Ended Ending.Full) in
    let n = x.chain.ticket.queue in
    inl (y, slot_other (slotted t) n w.queues i (Slot.Arrived y) t (λ z. refl) ready_arrived h)
enter_wakes (Transition.EnterBusy x) w i m (y, h) =
    let t = Slot.Direct x.chain (Outcome.Ended Ending.Busy) in
    let n = x.chain.ticket.queue in
    inl (y, slot_other (slotted t) n w.queues i (Slot.Arrived y) t (λ z. refl) ready_arrived h)
enter_wakes (Transition.Direct c o xs) w i m (y, h) =
    let g = directing xs.seen c in
    inl (y, slot_other g c.ticket.queue w.queues i (Slot.Arrived y) Slot.Empty (λ z. refl) empty_arrived h)
enter_wakes (Transition.Answer k x o xs) w i m (y, h) =
    let g = completing xs.seen x.chain in
    inl (y, slot_kept g x.chain.ticket.queue w.queues i (Slot.Arrived y) (λ z. refl) h)
enter_wakes (Transition.Respond c r xs) w i m (y, h) =
    let g = completing xs.seen c in
    inl (y, slot_kept g c.ticket.queue w.queues i (Slot.Arrived y) (λ z. refl) h)
enter_wakes (Transition.Give e c xs) w i m (y, h) =
    let g = completing xs.seen c in
    inl (y, slot_kept g c.ticket.queue w.queues i (Slot.Arrived y) (λ z. refl) h)
enter_wakes (Transition.EnterStale x) w i m h = absurd m
enter_wakes d w i m h = inl h

-- Direct

direct_wakes : (d : Transition) (w : PlainWorld) (i : ℕ) → Happens d w → Applies (after d w) (Event.Direct i)
    → Either w d (Event.Direct i)
direct_wakes (Transition.Arrive f x) w i m (c, o, h) =
    let t = Slot.Arrived x in
    let g = arriving f.chain t in
    inl (c, o, slot_other g f.chain.ticket.queue w.queues i (Slot.Direct c o) t (λ z. refl) arrived_direct h)
direct_wakes (Transition.Refuse f a) w i m (c, o, h) =
    let g = arriving f.chain (Slot.Direct f.chain (Outcome.Decided a)) in
    elim (slot_was g f.chain.ticket.queue w.queues i (Slot.Direct c o) h) [
      | inl p ↦ inr (inl (ap Event.Direct p.0))
      | inr p ↦ inl (c, o, p)
    ]
direct_wakes (Transition.Open f g) w i m (c, o, h) =
    inl (c, o, slot_kept (taking f.chain) f.chain.ticket.queue w.queues i (Slot.Direct c o) (λ z. refl) h)
direct_wakes (Transition.Hold f) w i m (c, o, h) =
    inl (c, o, slot_kept (taking f.chain) f.chain.ticket.queue w.queues i (Slot.Direct c o) (λ z. refl) h)
direct_wakes (Transition.UseBuffer f xs) w i m (c, o, h) =
    let g = spending xs.seen f.chain in
    inl (c, o, slot_kept g f.chain.ticket.queue w.queues i (Slot.Direct c o) (λ z. refl) h)
direct_wakes (Transition.Break k n) w i m (c, o, h) =
    inl (c, o, slot_kept (broken_by n) k w.queues i (Slot.Direct c o) (λ z. refl) h)
direct_wakes (Transition.Run x) w i m (c, o, h) =
    let n = x.chain.ticket.queue in
    inl (c, o, slot_other (slotted Slot.Empty) n w.queues i (Slot.Direct c o) Slot.Empty (λ z. refl) empty_direct h)
direct_wakes (Transition.Park x) w i m (c, o, h) =
    let n = x.chain.ticket.queue in
    inl (c, o, slot_other (slotted Slot.Empty) n w.queues i (Slot.Direct c o) Slot.Empty (λ z. refl) empty_direct h)
direct_wakes (Transition.EnterFull x) w i m (c, o, h) =
    let g = slotted (Slot.Direct x.chain (Outcome.Ended Ending.Full)) in
    elim (slot_was g x.chain.ticket.queue w.queues i (Slot.Direct c o) h) [
      | inl p ↦ inr (inl (ap Event.Direct p.0))
      | inr p ↦ inl (c, o, p)
    ]
direct_wakes (Transition.EnterBusy x) w i m (c, o, h) =
    let g = slotted (Slot.Direct x.chain (Outcome.Ended Ending.Busy)) in
    elim (slot_was g x.chain.ticket.queue w.queues i (Slot.Direct c o) h) [
      | inl p ↦ inr (inl (ap Event.Direct p.0))
      | inr p ↦ inl (c, o, p)
    ]
direct_wakes (Transition.Direct a b xs) w i m (c, o, h) =
    let g = directing xs.seen a in
    inl (c, o, slot_other g a.ticket.queue w.queues i (Slot.Direct c o) Slot.Empty (λ z. refl) empty_direct h)
direct_wakes (Transition.Answer k x b xs) w i m (c, o, h) =
    let g = completing xs.seen x.chain in
    inl (c, o, slot_kept g x.chain.ticket.queue w.queues i (Slot.Direct c o) (λ z. refl) h)
direct_wakes (Transition.Respond a r xs) w i m (c, o, h) =
    let g = completing xs.seen a in
    inl (c, o, slot_kept g a.ticket.queue w.queues i (Slot.Direct c o) (λ z. refl) h)
direct_wakes (Transition.Give e a xs) w i m (c, o, h) =
    let g = completing xs.seen a in
    inl (c, o, slot_kept g a.ticket.queue w.queues i (Slot.Direct c o) (λ z. refl) h)
direct_wakes (Transition.EnterStale x) w i m h = absurd m
direct_wakes d w i m h = inl h

-- Fetch

abbrev Opens : PlainWorld → PlainWorld → Type 0
Opens v w = v.function ≡ None → w.function ≡ None

open_to : (v w : PlainWorld) (i : ℕ) → Opens v w → IsOpenTo v i → IsOpenTo w i
open_to v w zero f h = f h
open_to v w (suc i) f h = tt

-- where one queue is changed: it may be fetched from that one, or it might before
fetch_was : (v w : PlainWorld) (g : PlainQueue → PlainQueue) (k i : ℕ) → v.queues ≡ change g k w.queues
    → v.memory ≡ w.memory → Opens v w → (h : MayFetch v i)
    → ((i ≡ k) × (x : PlainQueue) × (h.queue ≡ g x)) ⊎ MayFetch w i
fetch_was v w g k i qs same f h =
    elim (item_was g k w.queues i h.queue (ap (λ l. slice_get l i) (sym qs) ∙ h.there)) [
      | inl p ↦ inl (p.0, p.1, p.3)
      | inr at ↦ inr (record {
        queue = h.queue;
        there = at;
        empty = h.empty;
        opened = open_to v w i f h.opened;
        whole = h.whole;
        has_some = λ n. h.has_some (subst (λ l. Offers h.queue.ring l Nothing) (sym same) n);
      })
    ]

-- where none is
fetch_same : (v w : PlainWorld) (i : ℕ) → v.queues ≡ w.queues → v.memory ≡ w.memory → Opens v w → MayFetch v i
    → MayFetch w i
fetch_same v w i qs same f h =
    record {
      queue = h.queue;
      there = ap (λ l. slice_get l i) (sym qs) ∙ h.there;
      empty = h.empty;
      opened = open_to v w i f h.opened;
      whole = h.whole;
      has_some = λ n. h.has_some (subst (λ l. Offers h.queue.ring l Nothing) (sym same) n);
    }

still_none : (g : PlainFunction → PlainFunction) (o : Option Opened) → on_function g o ≡ None → o ≡ None
still_none g None e = refl
still_none g (Some x) e = absurd (cc)

some_or_none : {X : Type 0} {x : X} → Some x ≡ None → ⊥
some_or_none e = cc

fetch_wakes : (d : Transition) (w : PlainWorld) (i : ℕ) → Happens d w → Applies (after d w) (Event.Fetch i)
    → Either w d (Event.Fetch i)
fetch_wakes (Transition.Poke x) w i m h = inr tt
fetch_wakes (Transition.Arrive f x) w i m h =
    let d = Transition.Arrive f x in
    let g = arriving f.chain (Slot.Arrived x) in
    elim (fetch_was (after d w) w g f.chain.ticket.queue i refl refl (λ e. e) h) [
      | inl p ↦ absurd (arrived_empty (ap (λ (q : PlainQueue). q.slot) (sym p.2) ∙ h.empty))
      | inr old ↦ inl old
    ]
fetch_wakes (Transition.Refuse f a) w i m h =
    let d = Transition.Refuse f a in
    let g = arriving f.chain (Slot.Direct f.chain (Outcome.Decided a)) in
    elim (fetch_was (after d w) w g f.chain.ticket.queue i refl refl (λ e. e) h) [
      | inl p ↦ absurd (ready_empty (ap (λ (q : PlainQueue). q.slot) (sym p.2) ∙ h.empty))
      | inr old ↦ inl old
    ]
fetch_wakes (Transition.Open f g) w i m h =
    let v = after (Transition.Open f g) w in
    elim (fetch_was v w (taking f.chain) f.chain.ticket.queue i refl refl (λ e. absurd (some_or_none e)) h) [
      | inl p ↦
          let zeroth : i ≡ 0 = p.0 ∙ m.control in
          let none : IsOpenTo v 0 = subst (IsOpenTo v) zeroth h.opened in
          absurd (some_or_none none)
      | inr old ↦ inl old
    ]
fetch_wakes (Transition.Hold f) w i m h =
    let d = Transition.Hold f in
    elim (fetch_was (after d w) w (taking f.chain) f.chain.ticket.queue i refl refl (λ e. e) h) [
      | inl p ↦ inl (subst (MayFetch w) (sym p.0) (applies d w m))
      | inr old ↦ inl old
    ]
fetch_wakes (Transition.UseBuffer f xs) w i m h = inr tt
fetch_wakes (Transition.Break k n) w i m h =
    let d = Transition.Break k n in
    elim (fetch_was (after d w) w (broken_by n) k i refl refl (λ e. e) h) [
      | inl p ↦ absurd (some_or_none (ap (λ (q : PlainQueue). q.ring.broken) (sym p.2) ∙ h.whole))
      | inr old ↦ inl old
    ]
fetch_wakes (Transition.Run x) w i m h =
    let d = Transition.Run x in
    elim (fetch_was (after d w) w (slotted Slot.Empty) x.chain.ticket.queue i refl refl (λ e. e) h) [
      | inl p ↦ inr (inl (ap Event.Fetch p.0))
      | inr old ↦ inl old
    ]
fetch_wakes (Transition.Park x) w i m h =
    let d = Transition.Park x in
    elim (fetch_was (after d w) w (slotted Slot.Empty) x.chain.ticket.queue i refl refl (λ e. e) h) [
      | inl p ↦ inr (inl (ap Event.Fetch p.0))
      | inr old ↦ inl old
    ]
fetch_wakes (Transition.EnterFull x) w i m h =
    let d = Transition.EnterFull x in
    let g = slotted (Slot.Direct x.chain (Outcome.Ended Ending.Full)) in
    elim (fetch_was (after d w) w g x.chain.ticket.queue i refl refl (λ e. e) h) [
      | inl p ↦ absurd (ready_empty (ap (λ (q : PlainQueue). q.slot) (sym p.2) ∙ h.empty))
      | inr old ↦ inl old
    ]
fetch_wakes (Transition.EnterBusy x) w i m h =
    let d = Transition.EnterBusy x in
    let g = slotted (Slot.Direct x.chain (Outcome.Ended Ending.Busy)) in
    elim (fetch_was (after d w) w g x.chain.ticket.queue i refl refl (λ e. e) h) [
      | inl p ↦ absurd (ready_empty (ap (λ (q : PlainQueue). q.slot) (sym p.2) ∙ h.empty))
      | inr old ↦ inl old
    ]
fetch_wakes (Transition.EnterStale x) w i m h = absurd m
fetch_wakes (Transition.Direct c o xs) w i m h = inr tt
fetch_wakes (Transition.Answer k x o xs) w i m h = inr (inl tt)
fetch_wakes (Transition.Respond c r xs) w i m h = inr tt
fetch_wakes (Transition.Give e c xs) w i m h = inr tt
fetch_wakes (Transition.Mark t p how jobs) w i m h =
    inl (fetch_same (after (Transition.Mark t p how jobs) w) w i refl refl (still_none (marking p) w.function) h)
fetch_wakes (Transition.Ask t unit_index rule b) w i m h =
    inl (fetch_same (after (Transition.Ask t unit_index rule b) w) w i refl refl (still_none (asking b) w.function) h)
fetch_wakes (Transition.MarkRefused t) w i m h =
    inl (fetch_same (after (Transition.MarkRefused t) w) w i refl refl (still_none failing w.function) h)
fetch_wakes (Transition.Check t p) w i m h =
    inl (fetch_same (after (Transition.Check t p) w) w i refl refl (still_none checking w.function) h)
fetch_wakes d w i m h = inl (fetch_same (after d w) w i refl refl (λ e. e) h)

-- Hands

abbrev seat : Hand → List PlainJob → Seat
seat hand out = record { hand = hand; out = out }

abbrev pub Holds : List Seat → ℕ → Hand → Type 0
Holds seats j hand = (out : List PlainJob) × (slice_get seats j ≡ Some (seat hand out))

pub hand_was : (g : Seat → Seat) (k : ℕ) (seats : List Seat) (j : ℕ) (hand : Hand) → Holds (change g k seats) j hand
    → ((j ≡ k) × (x : Seat) × (slice_get seats k ≡ Some x) × (hand ≡ (g x).hand)) ⊎ Holds seats j hand
hand_was g k seats j hand h =
    elim (item_was g k seats j (seat hand h.0) h.1) [
      | inl p ↦ inl (p.0, p.1, p.2, ap (λ (s : Seat). s.hand) p.3)
      | inr at ↦ inr (h.0, at)
    ]

-- where the changed seat has something else in hand
pub hand_other : (g : Seat → Seat) (k : ℕ) (seats : List Seat) (j : ℕ) (hand other : Hand)
    → ((x : Seat) → (g x).hand ≡ other) → (hand ≡ other → ⊥) → Holds (change g k seats) j hand → Holds seats j hand
hand_other g k seats j hand other is apart h =
    elim (hand_was g k seats j hand h) [
      | inl p ↦ absurd (apart (p.3 ∙ is p.1))
      | inr old ↦ old
    ]

-- where it keeps what it has
pub hand_kept : (g : Seat → Seat) (k : ℕ) (seats : List Seat) (j : ℕ) (hand : Hand)
    → ((x : Seat) → (g x).hand ≡ x.hand) → Holds (change g k seats) j hand → Holds seats j hand
hand_kept g k seats j hand is h =
    elim (hand_was g k seats j hand h) [
      | inl p ↦
          let there = ap (λ n. slice_get seats n) p.0 ∙ p.2 in
          let same = p.3 ∙ is p.1 in
          (p.1.out, subst (λ z. slice_get seats j ≡ Some (seat z p.1.out)) (sym same) there)
      | inr old ↦ old
    ]

taken_free : {x : PlainJob} → Hand.Taken x ≡ Hand.Empty → ⊥
taken_free e = cc

pub done_free : {x : PlainJob} {o : Outcome} → Hand.Done x o ≡ Hand.Empty → ⊥
done_free e = cc

answered_free : {unit_index : ℕ} {t : Ticket} → Hand.Answered unit_index t ≡ Hand.Empty → ⊥
answered_free e = cc

pub taken_done : {x y : PlainJob} {o : Outcome} → Hand.Taken x ≡ Hand.Done y o → ⊥
taken_done e = cc

taken_answered : {x : PlainJob} {unit_index : ℕ} {t : Ticket} → Hand.Taken x ≡ Hand.Answered unit_index t → ⊥
taken_answered e = cc

pub done_answered : {x : PlainJob} {o : Outcome} {unit_index : ℕ} {t : Ticket} → Hand.Done x o ≡ Hand.Answered unit_index t → ⊥
done_answered e = cc

-- Commit

commit_wakes : (d : Transition) (w : PlainWorld) (j : ℕ) → Happens d w → Applies (after d w) (Event.Commit j)
    → Either w d (Event.Commit j)
commit_wakes (Transition.Run x) w j m (y, h) =
    let k = owner w.workers x.chain.ticket.queue in
    inl (y, hand_kept (with_jobs (x ∷ [])) k w.seats j (Hand.Taken y) (λ z. refl) h)
commit_wakes (Transition.Put k x) w j m (y, h) =
    inl (y, hand_other (without_first Hand.Empty) k w.seats j (Hand.Taken y) Hand.Empty (λ z. refl) taken_free h)
commit_wakes (Transition.Keep k x) w j m (y, h) =
    elim (hand_was (without_first (Hand.Taken x)) k w.seats j (Hand.Taken y) h) [
      | inl p ↦ inr (inl (ap Event.Commit p.0))
      | inr old ↦ inl (y, old)
    ]
commit_wakes (Transition.Take k from x) w j m (y, h) =
    elim (hand_was (with_hand (Hand.Taken x)) k w.seats j (Hand.Taken y) h) [
      | inl p ↦ inr (inl (ap Event.Commit p.0))
      | inr old ↦ inl (y, old)
    ]
commit_wakes (Transition.Commit k x r) w j m (y, h) =
    let new = Hand.Done x (Outcome.Ended (Ending.Replied r)) in
    inl (y, hand_other (with_hand new) k w.seats j (Hand.Taken y) new (λ z. refl) taken_done h)
commit_wakes (Transition.CommitBusy k x) w j m (y, h) =
    let new = Hand.Done x (Outcome.Ended Ending.Busy) in
    inl (y, hand_other (with_hand new) k w.seats j (Hand.Taken y) new (λ z. refl) taken_done h)
commit_wakes (Transition.CommitAborted k x why) w j m (y, h) =
    let new = Hand.Done x (Outcome.Ended (Ending.Aborted why)) in
    inl (y, hand_other (with_hand new) k w.seats j (Hand.Taken y) new (λ z. refl) taken_done h)
commit_wakes (Transition.CommitUnknown k x) w j m h = absurd m
commit_wakes (Transition.Defer k x) w j m (y, h) =
    inl (y, hand_other (with_hand Hand.Empty) k w.seats j (Hand.Taken y) Hand.Empty (λ z. refl) taken_free h)
commit_wakes (Transition.Withhold k x r) w j m (y, h) =
    inl (y, hand_other (with_hand Hand.Empty) k w.seats j (Hand.Taken y) Hand.Empty (λ z. refl) taken_free h)
commit_wakes (Transition.Conclude k x r) w j m (y, h) =
    let new = Hand.Done x (Outcome.Ended (Ending.Replied r)) in
    inl (y, hand_other (with_hand new) k w.seats j (Hand.Taken y) new (λ z. refl) taken_done h)
commit_wakes (Transition.Resume k x) w j m (y, h) =
    elim (hand_was (with_hand (Hand.Taken x)) k w.seats j (Hand.Taken y) h) [
      | inl p ↦ inr (inl (ap Event.Commit p.0))
      | inr old ↦ inl (y, old)
    ]
commit_wakes (Transition.Answer k x o xs) w j m (y, h) =
    let new = Hand.Answered x.unit x.chain.ticket in
    inl (y, hand_other (with_hand new) k w.seats j (Hand.Taken y) new (λ z. refl) taken_answered h)
commit_wakes (Transition.Leave k unit_index t jobs) w j m (y, h) =
    inl (y, hand_other (leaving jobs) k w.seats j (Hand.Taken y) Hand.Empty (λ z. refl) taken_free h)
commit_wakes (Transition.Mark t p how jobs) w j m (y, h) =
    inl (y, hand_kept (with_jobs jobs) 0 w.seats j (Hand.Taken y) (λ z. refl) h)
commit_wakes (Transition.Hard p jobs) w j m (y, h) =
    inl (y, hand_kept (with_jobs jobs) w.workers w.seats j (Hand.Taken y) (λ z. refl) h)
commit_wakes d w j m h = inl h

-- Answer

answer_wakes : (d : Transition) (w : PlainWorld) (j : ℕ) → Happens d w → Applies (after d w) (Event.Answer j)
    → Either w d (Event.Answer j)
answer_wakes (Transition.Run x) w j m (y, o, h) =
    let k = owner w.workers x.chain.ticket.queue in
    inl (y, o, hand_kept (with_jobs (x ∷ [])) k w.seats j (Hand.Done y o) (λ z. refl) h)
answer_wakes (Transition.Put k x) w j m (y, o, h) =
    inl (y, o, hand_other (without_first Hand.Empty) k w.seats j (Hand.Done y o) Hand.Empty (λ z. refl) done_free h)
answer_wakes (Transition.Keep k x) w j m (y, o, h) =
    let new = Hand.Taken x in
    inl (y, o, hand_other (without_first new) k w.seats j (Hand.Done y o) new (λ z. refl) (λ e. taken_done (sym e)) h)
answer_wakes (Transition.Take k from x) w j m (y, o, h) =
    let new = Hand.Taken x in
    inl (y, o, hand_other (with_hand new) k w.seats j (Hand.Done y o) new (λ z. refl) (λ e. taken_done (sym e)) h)
answer_wakes (Transition.Commit k x r) w j m (y, o, h) =
    let new = Hand.Done x (Outcome.Ended (Ending.Replied r)) in
    elim (hand_was (with_hand new) k w.seats j (Hand.Done y o) h) [
      | inl p ↦ inr (inl (ap Event.Answer p.0))
      | inr old ↦ inl (y, o, old)
    ]
answer_wakes (Transition.CommitBusy k x) w j m (y, o, h) =
    let new = Hand.Done x (Outcome.Ended Ending.Busy) in
    elim (hand_was (with_hand new) k w.seats j (Hand.Done y o) h) [
      | inl p ↦ inr (inl (ap Event.Answer p.0))
      | inr old ↦ inl (y, o, old)
    ]
answer_wakes (Transition.CommitAborted k x why) w j m (y, o, h) =
    let new = Hand.Done x (Outcome.Ended (Ending.Aborted why)) in
    elim (hand_was (with_hand new) k w.seats j (Hand.Done y o) h) [
      | inl p ↦ inr (inl (ap Event.Answer p.0))
      | inr old ↦ inl (y, o, old)
    ]
answer_wakes (Transition.CommitUnknown k x) w j m h = absurd m
answer_wakes (Transition.Defer k x) w j m (y, o, h) =
    inl (y, o, hand_other (with_hand Hand.Empty) k w.seats j (Hand.Done y o) Hand.Empty (λ z. refl) done_free h)
answer_wakes (Transition.Withhold k x r) w j m (y, o, h) =
    inl (y, o, hand_other (with_hand Hand.Empty) k w.seats j (Hand.Done y o) Hand.Empty (λ z. refl) done_free h)
answer_wakes (Transition.Conclude k x r) w j m (y, o, h) =
    let new = Hand.Done x (Outcome.Ended (Ending.Replied r)) in
    elim (hand_was (with_hand new) k w.seats j (Hand.Done y o) h) [
      | inl p ↦ inr (inl (ap Event.Answer p.0))
      | inr old ↦ inl (y, o, old)
    ]
answer_wakes (Transition.Resume k x) w j m (y, o, h) =
    let new = Hand.Taken x in
    inl (y, o, hand_other (with_hand new) k w.seats j (Hand.Done y o) new (λ z. refl) (λ e. taken_done (sym e)) h)
answer_wakes (Transition.Answer k x b xs) w j m (y, o, h) =
    let new = Hand.Answered x.unit x.chain.ticket in
    inl (y, o, hand_other (with_hand new) k w.seats j (Hand.Done y o) new (λ z. refl) done_answered h)
answer_wakes (Transition.Leave k unit_index t jobs) w j m (y, o, h) =
    inl (y, o, hand_other (leaving jobs) k w.seats j (Hand.Done y o) Hand.Empty (λ z. refl) done_free h)
answer_wakes (Transition.Mark t p how jobs) w j m (y, o, h) =
    inl (y, o, hand_kept (with_jobs jobs) 0 w.seats j (Hand.Done y o) (λ z. refl) h)
answer_wakes (Transition.Hard p jobs) w j m (y, o, h) =
    inl (y, o, hand_kept (with_jobs jobs) w.workers w.seats j (Hand.Done y o) (λ z. refl) h)
answer_wakes d w j m h = inl h

-- Leave

leave_wakes : (d : Transition) (w : PlainWorld) (j : ℕ) → Happens d w → Applies (after d w) (Event.Leave j)
    → Either w d (Event.Leave j)
leave_wakes (Transition.Run x) w j m (unit_index, t, h) =
    let k = owner w.workers x.chain.ticket.queue in
    inl (unit_index, t, hand_kept (with_jobs (x ∷ [])) k w.seats j (Hand.Answered unit_index t) (λ z. refl) h)
leave_wakes (Transition.Put k x) w j m (unit_index, t, h) =
    let was = Hand.Answered unit_index t in
    inl (unit_index, t, hand_other (without_first Hand.Empty) k w.seats j was Hand.Empty (λ z. refl) answered_free h)
leave_wakes (Transition.Keep k x) w j m (unit_index, t, h) =
    let was = Hand.Answered unit_index t in
    let new = Hand.Taken x in
    inl (unit_index, t, hand_other (without_first new) k w.seats j was new (λ z. refl) (λ e. taken_answered (sym e)) h)
leave_wakes (Transition.Take k from x) w j m (unit_index, t, h) =
    let was = Hand.Answered unit_index t in
    let new = Hand.Taken x in
    inl (unit_index, t, hand_other (with_hand new) k w.seats j was new (λ z. refl) (λ e. taken_answered (sym e)) h)
leave_wakes (Transition.Commit k x r) w j m (unit_index, t, h) =
    let was = Hand.Answered unit_index t in
    let new = Hand.Done x (Outcome.Ended (Ending.Replied r)) in
    inl (unit_index, t, hand_other (with_hand new) k w.seats j was new (λ z. refl) (λ e. done_answered (sym e)) h)
leave_wakes (Transition.CommitBusy k x) w j m (unit_index, t, h) =
    let was = Hand.Answered unit_index t in
    let new = Hand.Done x (Outcome.Ended Ending.Busy) in
    inl (unit_index, t, hand_other (with_hand new) k w.seats j was new (λ z. refl) (λ e. done_answered (sym e)) h)
leave_wakes (Transition.CommitAborted k x why) w j m (unit_index, t, h) =
    let was = Hand.Answered unit_index t in
    let new = Hand.Done x (Outcome.Ended (Ending.Aborted why)) in
    inl (unit_index, t, hand_other (with_hand new) k w.seats j was new (λ z. refl) (λ e. done_answered (sym e)) h)
leave_wakes (Transition.CommitUnknown k x) w j m h = absurd m
leave_wakes (Transition.Defer k x) w j m (unit_index, t, h) =
    let was = Hand.Answered unit_index t in
    inl (unit_index, t, hand_other (with_hand Hand.Empty) k w.seats j was Hand.Empty (λ z. refl) answered_free h)
leave_wakes (Transition.Withhold k x r) w j m (unit_index, t, h) =
    let was = Hand.Answered unit_index t in
    inl (unit_index, t, hand_other (with_hand Hand.Empty) k w.seats j was Hand.Empty (λ z. refl) answered_free h)
leave_wakes (Transition.Conclude k x r) w j m (unit_index, t, h) =
    let was = Hand.Answered unit_index t in
    let new = Hand.Done x (Outcome.Ended (Ending.Replied r)) in
    inl (unit_index, t, hand_other (with_hand new) k w.seats j was new (λ z. refl) (λ e. done_answered (sym e)) h)
leave_wakes (Transition.Resume k x) w j m (unit_index, t, h) =
    let was = Hand.Answered unit_index t in
    let new = Hand.Taken x in
    inl (unit_index, t, hand_other (with_hand new) k w.seats j was new (λ z. refl) (λ e. taken_answered (sym e)) h)
leave_wakes (Transition.Answer k x o xs) w j m (unit_index, t, h) =
    elim (hand_was (with_hand (Hand.Answered x.unit x.chain.ticket)) k w.seats j (Hand.Answered unit_index t) h) [
      | inl p ↦ inr (inr (inl (ap Event.Leave p.0)))
      | inr old ↦ inl (unit_index, t, old)
    ]
leave_wakes (Transition.Leave k u s jobs) w j m (unit_index, t, h) =
    inl (unit_index, t, hand_other (leaving jobs) k w.seats j (Hand.Answered unit_index t) Hand.Empty (λ z. refl) answered_free h)
leave_wakes (Transition.Mark s p how jobs) w j m (unit_index, t, h) =
    inl (unit_index, t, hand_kept (with_jobs jobs) 0 w.seats j (Hand.Answered unit_index t) (λ z. refl) h)
leave_wakes (Transition.Hard p jobs) w j m (unit_index, t, h) =
    inl (unit_index, t, hand_kept (with_jobs jobs) w.workers w.seats j (Hand.Answered unit_index t) (λ z. refl) h)
leave_wakes d w j m h = inl h

-- Put

put_was : (v w : PlainWorld) (g : Seat → Seat) (k j : ℕ) → v.seats ≡ change g k w.seats → (h : MayPut v j)
    → ((j ≡ k) × (x : Seat) × (Hand.Empty ≡ (g x).hand)) ⊎ MayPut w j
put_was v w g k j seats h =
    let is = seat Hand.Empty (h.job ∷ h.rest) in
    elim (item_was g k w.seats j is (ap (λ l. slice_get l j) (sym seats) ∙ h.seat)) [
      | inl p ↦ inl (p.0, p.1, ap (λ (s : Seat). s.hand) p.3)
      | inr at ↦ inr (record { job = h.job; rest = h.rest; seat = at })
    ]

-- where the changed seat isn't free
put_not : (v w : PlainWorld) (g : Seat → Seat) (k j : ℕ) (hand : Hand) → v.seats ≡ change g k w.seats
    → ((x : Seat) → (g x).hand ≡ hand) → (hand ≡ Hand.Empty → ⊥) → MayPut v j → MayPut w j
put_not v w g k j hand seats is apart h =
    elim (put_was v w g k j seats h) [
      | inl p ↦ absurd (apart (sym (p.2 ∙ is p.1)))
      | inr old ↦ old
    ]

put_same : (v w : PlainWorld) (j : ℕ) → v.seats ≡ w.seats → MayPut v j → MayPut w j
put_same v w j seats h =
    record { job = h.job; rest = h.rest; seat = ap (λ l. slice_get l j) (sym seats) ∙ h.seat }

put_wakes : (d : Transition) (w : PlainWorld) (j : ℕ) → Happens d w → Applies (after d w) (Event.Put j)
    → Either w d (Event.Put j)
put_wakes (Transition.Run x) w j m h =
    let k = owner w.workers x.chain.ticket.queue in
    elim (put_was (after (Transition.Run x) w) w (with_jobs (x ∷ [])) k j refl h) [
      | inl p ↦ inr (inr (inl (ap Event.Put p.0)))
      | inr old ↦ inl old
    ]
put_wakes (Transition.Put k x) w j m h =
    let d = Transition.Put k x in
    elim (put_was (after d w) w (without_first Hand.Empty) k j refl h) [
      | inl p ↦ inl (subst (MayPut w) (sym p.0) (applies d w m))
      | inr old ↦ inl old
    ]
put_wakes (Transition.Keep k x) w j m h =
    let new = Hand.Taken x in
    inl (put_not (after (Transition.Keep k x) w) w (without_first new) k j new refl (λ z. refl) taken_free h)
put_wakes (Transition.Take k from x) w j m h =
    let new = Hand.Taken x in
    inl (put_not (after (Transition.Take k from x) w) w (with_hand new) k j new refl (λ z. refl) taken_free h)
put_wakes (Transition.Commit k x r) w j m h =
    let new = Hand.Done x (Outcome.Ended (Ending.Replied r)) in
    inl (put_not (after (Transition.Commit k x r) w) w (with_hand new) k j new refl (λ z. refl) done_free h)
put_wakes (Transition.CommitBusy k x) w j m h =
    let new = Hand.Done x (Outcome.Ended Ending.Busy) in
    inl (put_not (after (Transition.CommitBusy k x) w) w (with_hand new) k j new refl (λ z. refl) done_free h)
put_wakes (Transition.CommitAborted k x why) w j m h =
    let new = Hand.Done x (Outcome.Ended (Ending.Aborted why)) in
    inl (put_not (after (Transition.CommitAborted k x why) w) w (with_hand new) k j new refl (λ z. refl) done_free h)
put_wakes (Transition.CommitUnknown k x) w j m h = absurd m
put_wakes (Transition.Defer k x) w j m h =
    elim (put_was (after (Transition.Defer k x) w) w (with_hand Hand.Empty) k j refl h) [
      | inl p ↦ inr (inl (ap Event.Put p.0))
      | inr old ↦ inl old
    ]
put_wakes (Transition.Withhold k x r) w j m h =
    elim (put_was (after (Transition.Withhold k x r) w) w (with_hand Hand.Empty) k j refl h) [
      | inl p ↦ inr (inl (ap Event.Put p.0))
      | inr old ↦ inl old
    ]
put_wakes (Transition.Conclude k x r) w j m h =
    let new = Hand.Done x (Outcome.Ended (Ending.Replied r)) in
    inl (put_not (after (Transition.Conclude k x r) w) w (with_hand new) k j new refl (λ z. refl) done_free h)
put_wakes (Transition.Resume k x) w j m h =
    let new = Hand.Taken x in
    inl (put_not (after (Transition.Resume k x) w) w (with_hand new) k j new refl (λ z. refl) taken_free h)
put_wakes (Transition.Answer k x o xs) w j m h =
    let new = Hand.Answered x.unit x.chain.ticket in
    inl (put_not (after (Transition.Answer k x o xs) w) w (with_hand new) k j new refl (λ z. refl) answered_free h)
put_wakes (Transition.Leave k unit_index t jobs) w j m h =
    elim (put_was (after (Transition.Leave k unit_index t jobs) w) w (leaving jobs) k j refl h) [
      | inl p ↦ inr (inl (ap Event.Put p.0))
      | inr old ↦ inl old
    ]
put_wakes (Transition.Mark t p how jobs) w j m h =
    elim (put_was (after (Transition.Mark t p how jobs) w) w (with_jobs jobs) 0 j refl h) [
      | inl q ↦ inr (inr (inl (ap Event.Put q.0)))
      | inr old ↦ inl old
    ]
put_wakes (Transition.Hard p jobs) w j m h =
    elim (put_was (after (Transition.Hard p jobs) w) w (with_jobs jobs) w.workers j refl h) [
      | inl q ↦ inr (inr (inl (ap Event.Put q.0)))
      | inr old ↦ inl old
    ]
put_wakes d w j m h = inl (put_same (after d w) w j refl h)

-- Take

take_was : (v w : PlainWorld) (g : Seat → Seat) (k j : ℕ) → v.seats ≡ change g k w.seats → v.workers ≡ w.workers
    → v.handed_off ≡ w.handed_off → (h : MayTake v j)
    → ((j ≡ k) × (x : Seat) × (slice_get w.seats k ≡ Some x) × (seat Hand.Empty [] ≡ g x)) ⊎ MayTake w j
take_was v w g k j seats workers off h =
    elim (item_was g k w.seats j (seat Hand.Empty []) (ap (λ l. slice_get l j) (sym seats) ∙ h.seat)) [
      | inl p ↦ inl p
      | inr at ↦ inr (record {
        worker = subst (λ n. j < n) workers h.worker;
        seat = at;
        from = h.from;
        job = h.job;
        rest = h.rest;
        handed_off = ap (λ l. slice_get l h.from) (sym off) ∙ h.handed_off;
      })
    ]

take_not : (v w : PlainWorld) (g : Seat → Seat) (k j : ℕ) (hand : Hand) → v.seats ≡ change g k w.seats
    → v.workers ≡ w.workers → v.handed_off ≡ w.handed_off
    → ((x : Seat) → (g x).hand ≡ hand) → (hand ≡ Hand.Empty → ⊥) → MayTake v j → MayTake w j
take_not v w g k j hand seats workers off is apart h =
    elim (take_was v w g k j seats workers off h) [
      | inl p ↦ absurd (apart (sym (is p.1) ∙ ap (λ (s : Seat). s.hand) (sym p.3)))
      | inr old ↦ old
    ]

none_before : (xs ys : List PlainJob) → xs ++ ys ≡ [] → xs ≡ []
none_before [] ys e = refl
none_before (x ∷ xs) ys e = absurd (cc)

-- a seat that got jobs and has none had none
take_fewer : (v w : PlainWorld) (jobs : List PlainJob) (k j : ℕ) → v.seats ≡ change (with_jobs jobs) k w.seats
    → v.workers ≡ w.workers → v.handed_off ≡ w.handed_off → MayTake v j → MayTake w j
take_fewer v w jobs k j seats workers off h =
    elim (take_was v w (with_jobs jobs) k j seats workers off h) [
      | inl p ↦
          let there = ap (λ n. slice_get w.seats n) p.0 ∙ p.2 in
          let hand = ap (λ (s : Seat). s.hand) p.3 in
          let out = none_before p.1.out jobs (ap (λ (s : Seat). s.out) (sym p.3)) in
          let free = subst (λ z. slice_get w.seats j ≡ Some (seat z p.1.out)) (sym hand) there in
          record {
            worker = subst (λ n. j < n) workers h.worker;
            seat = subst (λ l. slice_get w.seats j ≡ Some (seat Hand.Empty l)) out free;
            from = h.from;
            job = h.job;
            rest = h.rest;
            handed_off = ap (λ l. slice_get l h.from) (sym off) ∙ h.handed_off;
          }
      | inr old ↦ old
    ]

take_same : (v w : PlainWorld) (j : ℕ) → v.seats ≡ w.seats → v.workers ≡ w.workers → v.handed_off ≡ w.handed_off
    → MayTake v j → MayTake w j
take_same v w j seats workers off h =
    record {
      worker = subst (λ n. j < n) workers h.worker;
      seat = ap (λ l. slice_get l j) (sym seats) ∙ h.seat;
      from = h.from;
      job = h.job;
      rest = h.rest;
      handed_off = ap (λ l. slice_get l h.from) (sym off) ∙ h.handed_off;
    }

take_wakes : (d : Transition) (w : PlainWorld) (j : ℕ) → Happens d w → Applies (after d w) (Event.Take j)
    → Either w d (Event.Take j)
take_wakes (Transition.Run x) w j m h =
    let k = owner w.workers x.chain.ticket.queue in
    inl (take_fewer (after (Transition.Run x) w) w (x ∷ []) k j refl refl refl h)
take_wakes (Transition.Put k x) w j m h = inr tt
take_wakes (Transition.Keep k x) w j m h =
    let new = Hand.Taken x in
    inl (take_not (after (Transition.Keep k x) w) w (without_first new) k j new refl refl refl (λ z. refl) taken_free h)
take_wakes (Transition.Take k from x) w j m h =
    let new = Hand.Taken x in
    elim (item_was (with_hand new) k w.seats j (seat Hand.Empty []) h.seat) [
      | inl p ↦ absurd (taken_free (ap (λ (s : Seat). s.hand) (sym p.3)))
      | inr at ↦ inl (record {
        worker = h.worker;
        seat = at;
        from = from;
        job = x;
        rest = m.rest;
        handed_off = m.handed_off;
      })
    ]
take_wakes (Transition.Commit k x r) w j m h =
    let new = Hand.Done x (Outcome.Ended (Ending.Replied r)) in
    inl (take_not (after (Transition.Commit k x r) w) w (with_hand new) k j new refl refl refl (λ z. refl) done_free h)
take_wakes (Transition.CommitBusy k x) w j m h =
    let new = Hand.Done x (Outcome.Ended Ending.Busy) in
    inl (take_not (after (Transition.CommitBusy k x) w) w (with_hand new) k j new refl refl refl (λ z. refl) done_free h)
take_wakes (Transition.CommitAborted k x why) w j m h =
    let new = Hand.Done x (Outcome.Ended (Ending.Aborted why)) in
    inl (take_not (after (Transition.CommitAborted k x why) w) w (with_hand new) k j new refl refl refl (λ z. refl) done_free h)
take_wakes (Transition.CommitUnknown k x) w j m h = absurd m
take_wakes (Transition.Defer k x) w j m h =
    elim (take_was (after (Transition.Defer k x) w) w (with_hand Hand.Empty) k j refl refl refl h) [
      | inl p ↦ inr (inr (inl (ap Event.Take p.0)))
      | inr old ↦ inl old
    ]
take_wakes (Transition.Withhold k x r) w j m h =
    elim (take_was (after (Transition.Withhold k x r) w) w (with_hand Hand.Empty) k j refl refl refl h) [
      | inl p ↦ inr (inr (inl (ap Event.Take p.0)))
      | inr old ↦ inl old
    ]
take_wakes (Transition.Conclude k x r) w j m h =
    let new = Hand.Done x (Outcome.Ended (Ending.Replied r)) in
    inl (take_not (after (Transition.Conclude k x r) w) w (with_hand new) k j new refl refl refl (λ z. refl) done_free h)
take_wakes (Transition.Resume k x) w j m h =
    let new = Hand.Taken x in
    inl (take_not (after (Transition.Resume k x) w) w (with_hand new) k j new refl refl refl (λ z. refl) taken_free h)
take_wakes (Transition.Answer k x o xs) w j m h =
    let new = Hand.Answered x.unit x.chain.ticket in
    inl (take_not (after (Transition.Answer k x o xs) w) w (with_hand new) k j new refl refl refl (λ z. refl) answered_free h)
take_wakes (Transition.Leave k unit_index t jobs) w j m h =
    elim (take_was (after (Transition.Leave k unit_index t jobs) w) w (leaving jobs) k j refl refl refl h) [
      | inl p ↦ inr (inr (inl (ap Event.Take p.0)))
      | inr old ↦ inl old
    ]
take_wakes (Transition.Mark t p how jobs) w j m h =
    inl (take_fewer (after (Transition.Mark t p how jobs) w) w jobs 0 j refl refl refl h)
take_wakes (Transition.Hard p jobs) w j m h =
    inl (take_fewer (after (Transition.Hard p jobs) w) w jobs w.workers j refl refl refl h)
take_wakes d w j m h = inl (take_same (after d w) w j refl refl refl h)

-- The function

-- a function that went on was open
function_was : (g : PlainFunction → PlainFunction) (o : Option Opened) (y : Opened) → on_function g o ≡ Some y
    → (x : Opened) × (o ≡ Some x) × (y.function ≡ g x.function)
function_was g None y e = absurd (nothing e)
function_was g (Some x) y e = (x, refl, ap (λ (o : Opened). o.function) (sym (same e)))

-- Mark

mark_same : (v w : PlainWorld) → v.function ≡ w.function → MayMark v → MayMark w
mark_same v w is h =
    record { opened = h.opened; there = sym is ∙ h.there; unit_index = h.unit_index; later = h.later; left = h.left }

mark_wakes : (d : Transition) (w : PlainWorld) → Happens d w → Applies (after d w) Event.Mark → Either w d Event.Mark
mark_wakes (Transition.Open f g) w m h = inr (inl refl)
mark_wakes (Transition.Mark t p how jobs) w m h = inl (applies (Transition.Mark t p how jobs) w m)
mark_wakes (Transition.Ask t unit_index rule b) w m h = inl (applies (Transition.Ask t unit_index rule b) w m)
mark_wakes (Transition.MarkRefused t) w m h = inl (applies (Transition.MarkRefused t) w m)
mark_wakes (Transition.Check t p) w m h =
    let was = function_was checking w.function h.opened h.there in
    inl (record {
      opened = was.0;
      there = was.1;
      unit_index = h.unit_index;
      later = h.later;
      left = ap (λ (f : PlainFunction). f.left) (sym was.2) ∙ h.left;
    })
mark_wakes (Transition.Respond c r xs) w m h = absurd (nothing h.there)
mark_wakes (Transition.Poke x) w m h = inl (mark_same (after (Transition.Poke x) w) w refl h)
mark_wakes d w m h = inl (mark_same (after d w) w refl h)

-- AnswerTmf

respond_same : (v w : PlainWorld) → v.function ≡ w.function → MayRespond v → MayRespond w
respond_same v w is h =
    record { opened = h.opened; there = sym is ∙ h.there; left = h.left; still = h.still }

some_last : (xs : List MarkAt) (x : MarkAt) → xs ++ x ∷ [] ≡ [] → ⊥
some_last [] x e = cc
some_last (y ∷ xs) x e = cc

respond_wakes : (d : Transition) (w : PlainWorld) → Happens d w → Applies (after d w) Event.AnswerTmf
    → Either w d Event.AnswerTmf
respond_wakes (Transition.Open f g) w m h = inr (inr (inl refl))
respond_wakes (Transition.Mark t p how jobs) w m h =
    let was = function_was (marking p) w.function h.opened h.there in
    absurd (some_last was.0.function.waits p (ap (λ (f : PlainFunction). f.waits) (sym was.2) ∙ h.still))
respond_wakes (Transition.Ask t unit_index rule b) w m h =
    let was = function_was (asking b) w.function h.opened h.there in
    let f = was.0.function in
    absurd (some_last f.waits (next_look f) (ap (λ (g : PlainFunction). g.waits) (sym was.2) ∙ h.still))
respond_wakes (Transition.MarkRefused t) w m h = inr (inr (inl refl))
respond_wakes (Transition.Check t p) w m h = inr (inl refl)
respond_wakes (Transition.Respond c r xs) w m h = absurd (nothing h.there)
respond_wakes d w m h = inl (respond_same (after d w) w refl h)

-- Check

-- a step that no task leaves by
abbrev Spares : Step → List Step → Type 0
Spares s past = (t : Ticket) → is_alive t past ≡ true → is_alive t (s ∷ past) ≡ true

still_alive : (a b : Bool) → (a ≡ true → b ≡ true) → not b ≡ true → not a ≡ true
still_alive true b h e = absurd (let f : not true ≡ true = ap not (sym (h refl)) ∙ e in cc)
still_alive false b h e = refl

both : (a b : Bool) → (a && b) ≡ true → (a ≡ true) × (b ≡ true)
both true b h = (refl, h)
both false b h = absurd (cc)

abbrev Gone : List Step → Entry → Bool
Gone h e = not (is_alive e.ticket h)

gone_before : (s : Step) (past : List Step) (es : List Entry) → Spares s past → list_all (Gone (s ∷ past)) es ≡ true
    → list_all (Gone past) es ≡ true
gone_before s past [] sp h = refl
gone_before s past (e ∷ es) sp h =
    let p = both (Gone (s ∷ past) e) (list_all (Gone (s ∷ past)) es) h in
    let here = still_alive (is_alive e.ticket past) (is_alive e.ticket (s ∷ past)) (sp e.ticket) p.0 in
    ap (λ b. b && list_all (Gone past) es) here ∙ gone_before s past es sp p.1

not_at : (n place : ℕ) → n + 1 ≤ place → eqb n place ≡ false
not_at n place le =
    (elim (eqb n place) as (λ b. eqb n place ≡ b → b ≡ false) [
      | true ↦ λ k. let is = eqb-true n place k in absurd (omega (arith, is, le))
      | false ↦ λ k. refl
    ]) refl

-- at a place that is still to come no task was met
met_later : (place : ℕ) (h : List Step) → length h ≤ place → met_at place h ≡ []
met_later place [] le = refl
met_later place (s ∷ past) le =
    let off = not_at (length past) place (omega (arith, le)) in
    ap (λ b. cond b (met_by s past) (met_at place past)) off ∙ met_later place past (omega (arith, le))

clear_before : (s : Step) (past : List Step) (place : ℕ) → Spares s past → is_clear place (s ∷ past) ≡ true
    → is_clear place past ≡ true
clear_before s past place sp h =
    (elim (eqb (length past) place) as (λ b. eqb (length past) place ≡ b
    → list_all (Gone (s ∷ past)) (cond b (met_by s past) (met_at place past)) ≡ true → is_clear place past ≡ true) [
      | true ↦ λ k c.
          let is = eqb-true (length past) place k in
          ap (list_all (Gone past)) (met_later place past (omega (arith, is)))
      | false ↦ λ k c. gone_before s past (met_at place past) sp c
    ]) refl h

found_push : (t : Ticket) (f : Entry) (es : List Entry) → is_some (task_of t es) ≡ true
    → is_some (task_of t (es ++ f ∷ [])) ≡ true
found_push t f [] h = absurd (cc)
found_push t f (x ∷ es) h =
    (elim (same_ticket x.ticket t) as (λ b. is_some (cond b (Some x) (task_of t es)) ≡ true
    → is_some (cond b (Some x) (task_of t (es ++ f ∷ []))) ≡ true) [
      | true ↦ λ k. refl
      | false ↦ λ k. found_push t f es k
    ]) h

check_same : (v w : PlainWorld) → v.function ≡ w.function → v.units ≡ w.units → MayCheck v → MayCheck w
check_same v w is units h =
    record {
      opened = h.opened;
      there = sym is ∙ h.there;
      left = h.left;
      mark = h.mark;
      later = h.later;
      still = h.still;
      unit = h.unit;
      unit_there = ap (λ l. slice_get l h.mark.unit) (sym units) ∙ h.unit_there;
      clear = h.clear;
    }

-- where one unit takes a step that no task leaves by
check_before : (v w : PlainWorld) (g : PlainUnit → PlainUnit) (s : Step) (k : ℕ) → v.function ≡ w.function
    → v.units ≡ change g k w.units → ((u : PlainUnit) → (g u).steps ≡ s ∷ u.steps)
    → ((past : List Step) → Spares s past) → MayCheck v → MayCheck w
check_before v w g s k is units step sp h =
    elim (item_was g k w.units h.mark.unit h.unit (ap (λ l. slice_get l h.mark.unit) (sym units) ∙ h.unit_there)) [
      | inl p ↦
          let now = ap (λ (u : PlainUnit). u.steps) p.3 ∙ step p.1 in
          let c = subst (λ l. is_clear h.mark.place l ≡ true) now h.clear in
          record {
            opened = h.opened;
            there = sym is ∙ h.there;
            left = h.left;
            mark = h.mark;
            later = h.later;
            still = h.still;
            unit = p.1;
            unit_there = ap (λ n. slice_get w.units n) p.0 ∙ p.2;
            clear = clear_before s p.1.steps h.mark.place (sp p.1.steps) c;
          }
      | inr at ↦
          record {
            opened = h.opened;
            there = sym is ∙ h.there;
            left = h.left;
            mark = h.mark;
            later = h.later;
            still = h.still;
            unit = h.unit;
            unit_there = at;
            clear = h.clear;
          }
    ]

-- where one unit keeps its steps
check_kept : (v w : PlainWorld) (g : PlainUnit → PlainUnit) (k : ℕ) → v.function ≡ w.function
    → v.units ≡ change g k w.units → ((u : PlainUnit) → (g u).steps ≡ u.steps) → MayCheck v → MayCheck w
check_kept v w g k is units kept h =
    elim (item_was g k w.units h.mark.unit h.unit (ap (λ l. slice_get l h.mark.unit) (sym units) ∙ h.unit_there)) [
      | inl p ↦
          let now = ap (λ (u : PlainUnit). u.steps) p.3 ∙ kept p.1 in
          record {
            opened = h.opened;
            there = sym is ∙ h.there;
            left = h.left;
            mark = h.mark;
            later = h.later;
            still = h.still;
            unit = p.1;
            unit_there = ap (λ n. slice_get w.units n) p.0 ∙ p.2;
            clear = subst (λ l. is_clear h.mark.place l ≡ true) now h.clear;
          }
      | inr at ↦
          record {
            opened = h.opened;
            there = sym is ∙ h.there;
            left = h.left;
            mark = h.mark;
            later = h.later;
            still = h.still;
            unit = h.unit;
            unit_there = at;
            clear = h.clear;
          }
    ]

none_waits : (xs : List MarkAt) (x : MarkAt) (later : List MarkAt) → xs ≡ [] → xs ≡ x ∷ later → ⊥
none_waits xs x later a b = cc

check_wakes : (d : Transition) (w : PlainWorld) → Happens d w → Applies (after d w) Event.Check → Either w d Event.Check
check_wakes (Transition.Open f g) w m h =
    let c = m.decided in
    let none = (opened_there w.inventory.addresses c.0 (lengths_of f.chain).writable g c.2).1 in
    let is = ap (λ (o : Opened). o.function.waits) (same h.there) in
    absurd (none_waits g.waits h.mark h.later none (is ∙ h.still))
check_wakes (Transition.Run x) w m h =
    let s = Step.Enter x.entry in
    let v = after (Transition.Run x) w in
    let on : (past : List Step) → Spares s past = λ past t k. found_push t x.entry (alive past) k in
    inl (check_before v w (stepped s) s x.unit refl refl (λ u. refl) on h)
check_wakes (Transition.Park x) w m h =
    let s = Step.Enter x.entry in
    let v = after (Transition.Park x) w in
    let on : (past : List Step) → Spares s past = λ past t k. found_push t x.entry (alive past) k in
    inl (check_before v w (parking x) s x.unit refl refl (λ u. refl) on h)
check_wakes (Transition.EnterFull x) w m h =
    let s = Step.Full x.entry.ticket in
    inl (check_before (after (Transition.EnterFull x) w) w (stepped s) s x.unit refl refl (λ u. refl) (λ past t k. k) h)
check_wakes (Transition.Commit i x r) w m h =
    let s = Step.Commit x.entry.ticket r in
    inl (check_before (after (Transition.Commit i x r) w) w (stepped s) s x.unit refl refl (λ u. refl) (λ past t k. k) h)
check_wakes (Transition.Withhold i x r) w m h =
    let s = Step.Commit x.entry.ticket r in
    inl (check_before (after (Transition.Withhold i x r) w) w (stepped s) s x.unit refl refl (λ u. refl) (λ past t k. k) h)
check_wakes (Transition.CommitBusy i x) w m h =
    let s = Step.Busy x.entry.ticket in
    inl (check_before (after (Transition.CommitBusy i x) w) w (stepped s) s x.unit refl refl (λ u. refl) (λ past t k. k) h)
check_wakes (Transition.Leave i unit_index t jobs) w m h = inr (inr (inr (inr (inl refl))))
check_wakes (Transition.Mark t p how jobs) w m h = inr (inr (inr (inl refl)))
check_wakes (Transition.Hard p jobs) w m h =
    let s = Step.Reset hard_code in
    inl (check_before (after (Transition.Hard p jobs) w) w (stepped s) s p.unit refl refl (λ u. refl) (λ past t k. k) h)
check_wakes (Transition.Resize unit_index blocks) w m h =
    let s = Step.Resize blocks in
    inl (check_before (after (Transition.Resize unit_index blocks) w) w (stepped s) s unit_index refl refl (λ u. refl) (λ past t k. k) h)
check_wakes (Transition.Deal unit_index x) w m h = inl (check_kept (after (Transition.Deal unit_index x) w) w (dealing x) unit_index refl refl (λ u. refl) h)
check_wakes (Transition.Ask t unit_index rule b) w m h = inr (inl refl)
check_wakes (Transition.MarkRefused t) w m h = inr (inl refl)
check_wakes (Transition.Check t p) w m h = inl (applies (Transition.Check t p) w m)
check_wakes (Transition.Respond c r xs) w m h = absurd (nothing h.there)
check_wakes d w m h = inl (check_same (after d w) w refl refl h)

-- Raise

raise_wakes : (d : Transition) (w : PlainWorld) → Happens d w → Applies (after d w) Event.Raise → Either w d Event.Raise
raise_wakes (Transition.Hard p jobs) w m h = inr (inr (inr (inl refl)))
raise_wakes (Transition.Resize unit_index blocks) w m h = inr (inl refl)
raise_wakes (Transition.Give e c xs) w m h = inl (applies (Transition.Give e c xs) w m)
raise_wakes (Transition.Miss e) w m h = inl (applies (Transition.Miss e) w m)
raise_wakes d w m h = inl h

-- Resume

-- where one seat is changed: it is that one that has its hand free, or the event applied before
resume_was : (v w : PlainWorld) (g : Seat → Seat) (k j : ℕ) → v.seats ≡ change g k w.seats → v.workers ≡ w.workers
    → v.woken ≡ w.woken → (h : MayResume v j)
    → ((j ≡ k) × (x : Seat) × (slice_get w.seats k ≡ Some x) × (Hand.Empty ≡ (g x).hand)) ⊎ MayResume w j
resume_was v w g k j seats workers woken h =
    elim (hand_was g k w.seats j Hand.Empty (h.free.0, ap (λ l. slice_get l j) (sym seats) ∙ h.free.1)) [
      | inl p ↦ inl p
      | inr old ↦ inr (record {
        worker = subst (λ n. j < n) workers h.worker;
        free = old;
        job = h.job;
        rest = h.rest;
        first = sym woken ∙ h.first;
      })
    ]

resume_not : (v w : PlainWorld) (g : Seat → Seat) (k j : ℕ) (hand : Hand) → v.seats ≡ change g k w.seats
    → v.workers ≡ w.workers → v.woken ≡ w.woken → ((x : Seat) → (g x).hand ≡ hand) → (hand ≡ Hand.Empty → ⊥) → MayResume v j → MayResume w j
resume_not v w g k j hand seats workers woken is apart h =
    elim (resume_was v w g k j seats workers woken h) [
      | inl p ↦ absurd (apart (sym (is p.1) ∙ sym p.3))
      | inr old ↦ old
    ]

resume_same : (v w : PlainWorld) (j : ℕ) → v.seats ≡ w.seats → v.workers ≡ w.workers → v.woken ≡ w.woken
    → MayResume v j → MayResume w j
resume_same v w j seats workers woken h =
    record {
      worker = subst (λ n. j < n) workers h.worker;
      free = (h.free.0, ap (λ l. slice_get l j) (sym seats) ∙ h.free.1);
      job = h.job;
      rest = h.rest;
      first = sym woken ∙ h.first;
    }

resume_wakes : (d : Transition) (w : PlainWorld) (j : ℕ) → Happens d w → Applies (after d w) (Event.Resume j)
    → Either w d (Event.Resume j)
resume_wakes (Transition.Run x) w j m h =
    let k = owner w.workers x.chain.ticket.queue in
    let free = hand_kept (with_jobs (x ∷ [])) k w.seats j Hand.Empty (λ z. refl) h.free in
    inl (record { worker = h.worker; free = free; job = h.job; rest = h.rest; first = h.first })
resume_wakes (Transition.Put k x) w j m h =
    elim (hand_was (without_first Hand.Empty) k w.seats j Hand.Empty h.free) [
      | inl p ↦
          let free : Holds w.seats j Hand.Empty = (x ∷ m.rest, ap (λ n. slice_get w.seats n) p.0 ∙ m.seat) in
          inl (record { worker = h.worker; free = free; job = h.job; rest = h.rest; first = h.first })
      | inr old ↦ inl (record { worker = h.worker; free = old; job = h.job; rest = h.rest; first = h.first })
    ]
resume_wakes (Transition.Keep k x) w j m h =
    let new = Hand.Taken x in
    inl (resume_not (after (Transition.Keep k x) w) w (without_first new) k j new refl refl refl (λ z. refl) taken_free h)
resume_wakes (Transition.Take k from x) w j m h =
    let new = Hand.Taken x in
    inl (resume_not (after (Transition.Take k from x) w) w (with_hand new) k j new refl refl refl (λ z. refl) taken_free h)
resume_wakes (Transition.Commit k x r) w j m h =
    let new = Hand.Done x (Outcome.Ended (Ending.Replied r)) in
    inl (resume_not (after (Transition.Commit k x r) w) w (with_hand new) k j new refl refl refl (λ z. refl) done_free h)
resume_wakes (Transition.CommitBusy k x) w j m h =
    let new = Hand.Done x (Outcome.Ended Ending.Busy) in
    inl (resume_not (after (Transition.CommitBusy k x) w) w (with_hand new) k j new refl refl refl (λ z. refl) done_free h)
resume_wakes (Transition.CommitAborted k x why) w j m h =
    let new = Hand.Done x (Outcome.Ended (Ending.Aborted why)) in
    inl (resume_not (after (Transition.CommitAborted k x why) w) w (with_hand new) k j new refl refl refl (λ z. refl) done_free h)
resume_wakes (Transition.CommitUnknown k x) w j m h = absurd m
resume_wakes (Transition.Defer k x) w j m h =
    elim (resume_was (after (Transition.Defer k x) w) w (with_hand Hand.Empty) k j refl refl refl h) [
      | inl p ↦ inr (inr (inr (inl (ap Event.Resume p.0))))
      | inr old ↦ inl old
    ]
resume_wakes (Transition.Withhold k x r) w j m h =
    elim (resume_was (after (Transition.Withhold k x r) w) w (with_hand Hand.Empty) k j refl refl refl h) [
      | inl p ↦ inr (inr (inr (inl (ap Event.Resume p.0))))
      | inr old ↦ inl old
    ]
resume_wakes (Transition.Conclude k x r) w j m h =
    let new = Hand.Done x (Outcome.Ended (Ending.Replied r)) in
    inl (resume_not (after (Transition.Conclude k x r) w) w (with_hand new) k j new refl refl refl (λ z. refl) done_free h)
resume_wakes Transition.Wake w j m h = inr tt
resume_wakes (Transition.Resume k x) w j m h =
    elim (hand_was (with_hand (Hand.Taken x)) k w.seats j Hand.Empty h.free) [
      | inl p ↦ absurd (taken_free (sym p.3))
      | inr old ↦ inl (record { worker = h.worker; free = old; job = x; rest = m.rest; first = m.first })
    ]
resume_wakes (Transition.Answer k x o xs) w j m h =
    let new = Hand.Answered x.unit x.chain.ticket in
    inl (resume_not (after (Transition.Answer k x o xs) w) w (with_hand new) k j new refl refl refl (λ z. refl) answered_free h)
resume_wakes (Transition.Leave k unit_index t jobs) w j m h =
    elim (resume_was (after (Transition.Leave k unit_index t jobs) w) w (leaving jobs) k j refl refl refl h) [
      | inl p ↦ inr (inr (inr (inl (ap Event.Resume p.0))))
      | inr old ↦ inl old
    ]
resume_wakes (Transition.Mark t p how jobs) w j m h = inr (inl tt)
resume_wakes (Transition.Hard p jobs) w j m h = inr (inl tt)
resume_wakes d w j m h = inl (resume_same (after d w) w j refl refl refl h)

-- Any event

either : (d : Transition) (w : PlainWorld) (e : Event) → IsOwn e → Happens d w → Applies (after d w) e → Either w d e
either d w (Event.Poke x) own m h = absurd own
either d w (Event.Fetch i) own m h = fetch_wakes d w i m h
either d w (Event.Enter i) own m h = enter_wakes d w i m h
either d w (Event.Direct i) own m h = direct_wakes d w i m h
either d w (Event.Put k) own m h = put_wakes d w k m h
either d w (Event.Take k) own m h = take_wakes d w k m h
either d w (Event.Commit k) own m h = commit_wakes d w k m h
either d w (Event.Answer k) own m h = answer_wakes d w k m h
either d w (Event.Leave k) own m h = leave_wakes d w k m h
either d w Event.Mark own m h = mark_wakes d w m h
either d w Event.Check own m h = check_wakes d w m h
either d w Event.AnswerTmf own m h = respond_wakes d w m h
either d w (Event.Prepare k) own m h = absurd own
either d w (Event.Resize unit_index blocks) own m h = absurd own
either d w (Event.Hard unit_index) own m h = absurd own
either d w Event.Wake own m h = absurd own
either d w (Event.Deal unit_index x) own m h = absurd own
either d w (Event.Resume k) own m h = resume_wakes d w k m h
either d w Event.Raise own m h = raise_wakes d w m h

pub wakes : (w : PlainWorld) (d : Transition) (e : Event) → IsOwn e → Happens d w → Applies (after d w) e
    → (Applies w e → ⊥) → Wakes w d e
wakes w d e own m h never = elim (either d w e own m h) [ inl old ↦ absurd (never old) | inr new ↦ new ]
