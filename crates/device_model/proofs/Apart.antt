-- A broken queue stays broken, and no transition changes a queue that it doesn't touch.
use Rattle.std.proofs.Common.{◌≡◌, ℕ, List, Some, None, refl, sym, ◌∙◌, ap, inl, inr}
use Rattle.std.specs.Prelude.{slice_get}
use Rattle.unit_model.specs.Endings.{Ending}
use Rattle.ring_core.specs.declared.fault.RingFault.{RingFault}
use Rattle.device_model.specs.Parts.{Outcome, Slot}
use Rattle.device_model.specs.World.{PlainQueue, PlainWorld, change}
use Rattle.device_model.specs.Transitions.{Transition}
use Rattle.device_model.specs.Changing.{arriving, taking, slotted, broken_by, completing, directing, spending}
use Rattle.device_model.specs.After.{after}
use Rattle.device_model.specs.Happens.{Happens}
use Rattle.device_model.specs.Laws.{AreApart, touches}
use Rattle.device_model.proofs.Lists.{nothing, same, at_other, there_change, get_other, stays, not_that}

abbrev Stays : List PlainQueue → List PlainQueue → Type 0
Stays old new =
    (i : ℕ) (n : RingFault) (q : PlainQueue) → slice_get old i ≡ Some q → q.ring.broken ≡ Some n
    → (r : PlainQueue) × (slice_get new i ≡ Some r) × (r.ring.broken ≡ Some n)

kept : (g : PlainQueue → PlainQueue) (k : ℕ) (qs : List PlainQueue)
    → ((q : PlainQueue) → (g q).ring.broken ≡ q.ring.broken) → Stays qs (change g k qs)
kept g k qs e i n q at f =
    let s = stays (λ (z : PlainQueue). z.ring.broken) g k qs e i q at in
    (s.0, s.1, s.2 ∙ f)

broke : (m : RingFault) (k : ℕ) (qs : List PlainQueue) (c : PlainQueue) → slice_get qs k ≡ Some c
    → c.ring.broken ≡ None → Stays qs (change (broken_by m) k qs)
broke m k qs c there whole i n q at f =
    let t = there_change (broken_by m) k qs i q at in
    let o = at_other (broken_by m) k qs i t.0 t.1 in
    let was : o.0 ≡ q = same (sym o.1 ∙ at) in
    let old : o.0.ring.broken ≡ Some n = ap (λ (z : PlainQueue). z.ring.broken) was ∙ f in (
      t.0,
      t.1,
      elim o.2 [
        | inl p ↦
            let is : c ≡ q = same (sym there ∙ ap (λ j. slice_get qs j) (sym p.0) ∙ at) in
            absurd (nothing (sym whole ∙ ap (λ (z : PlainQueue). z.ring.broken) is ∙ f))
        | inr p ↦ ap (λ (z : PlainQueue). z.ring.broken) p.1 ∙ old
      ],
    )

-- one queue is changed, and keeps its fault
at_one : (g : PlainQueue → PlainQueue) (k : ℕ) (d : Transition) (w : PlainWorld) → (after d w).queues ≡ change g k w.queues
    → ((q : PlainQueue) → (g q).ring.broken ≡ q.ring.broken)
    → ((i : ℕ) → (touches d ≡ Some i → ⊥) → (Some k ≡ Some i → ⊥)) → AreApart d w
at_one g k d w e f t =
    record {
      broken = λ i n q at b.
          let h = kept g k w.queues f i n q at b in
          (h.0, ap (λ l. slice_get l i) e ∙ h.1, h.2);
      others = λ i no. ap (λ l. slice_get l i) e ∙ get_other g k w.queues i (not_that k i (t i no));
    }

at_none : (d : Transition) (w : PlainWorld) → (after d w).queues ≡ w.queues → AreApart d w
at_none d w e =
    record {
      broken = λ i n q at b. (q, ap (λ l. slice_get l i) e ∙ at, b);
      others = λ i no. ap (λ l. slice_get l i) e;
    }

pub apart : (d : Transition) (w : PlainWorld) → Happens d w → AreApart d w
apart (Transition.Arrive f x) w h =
    at_one (arriving f.chain (Slot.Arrived x)) f.chain.ticket.queue (Transition.Arrive f x) w refl (λ q. refl) (λ i z. z)
apart (Transition.Refuse f a) w h =
    let g = arriving f.chain (Slot.Direct f.chain (Outcome.Decided a)) in
    at_one g f.chain.ticket.queue (Transition.Refuse f a) w refl (λ q. refl) (λ i z. z)
apart (Transition.Open f g) w h =
    at_one (taking f.chain) f.chain.ticket.queue (Transition.Open f g) w refl (λ q. refl) (λ i z. z)
apart (Transition.Hold f) w h = at_one (taking f.chain) f.chain.ticket.queue (Transition.Hold f) w refl (λ q. refl) (λ i z. z)
apart (Transition.UseBuffer f xs) w h =
    let g = spending xs.seen f.chain in
    at_one g f.chain.ticket.queue (Transition.UseBuffer f xs) w refl (λ q. refl) (λ i z. z)
apart (Transition.Break k m) w h =
    record {
      broken = broke m k w.queues h.queue h.there h.whole;
      others = λ i z. get_other (broken_by m) k w.queues i (not_that k i z);
    }
apart (Transition.Run x) w h =
    at_one (slotted Slot.Empty) x.chain.ticket.queue (Transition.Run x) w refl (λ q. refl) (λ i z. z)
apart (Transition.Park x) w h =
    at_one (slotted Slot.Empty) x.chain.ticket.queue (Transition.Park x) w refl (λ q. refl) (λ i z. z)
apart (Transition.EnterFull x) w h =
    let g = slotted (Slot.Direct x.chain (Outcome.Ended Ending.Full)) in
    at_one g x.chain.ticket.queue (Transition.EnterFull x) w refl (λ q. refl) (λ i z. z)
apart (Transition.EnterBusy x) w h =
    let g = slotted (Slot.Direct x.chain (Outcome.Ended Ending.Busy)) in
    at_one g x.chain.ticket.queue (Transition.EnterBusy x) w refl (λ q. refl) (λ i z. z)
apart (Transition.Direct c o xs) w h =
    let g = directing xs.seen c in
    at_one g c.ticket.queue (Transition.Direct c o xs) w refl (λ q. refl) (λ i z. z)
apart (Transition.Answer k x o xs) w h =
    let g = completing xs.seen x.chain in
    at_one g x.chain.ticket.queue (Transition.Answer k x o xs) w refl (λ q. refl) (λ i z. z)
apart (Transition.Respond c r xs) w h =
    let g = completing xs.seen c in
    at_one g c.ticket.queue (Transition.Respond c r xs) w refl (λ q. refl) (λ i z. z)
apart (Transition.Give e c xs) w h =
    let g = completing xs.seen c in
    at_one g c.ticket.queue (Transition.Give e c xs) w refl (λ q. refl) (λ i z. z)
apart (Transition.EnterStale x) w h = absurd h
apart (Transition.CommitUnknown k x) w h = absurd h
apart (Transition.Idle e) w h = absurd h
apart d w h = at_none d w refl
