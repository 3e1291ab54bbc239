-- Each completion counts the notice that its driver wants.
use Rattle.std.proofs.Common.{◌≡◌, ℕ, ◌+◌, Bool, false, List, Some, None, refl, sym, ap, ◌∙◌, subst}
use Rattle.std.specs.Prelude.{slice_get}
use Rattle.unit_model.specs.Endings.{Ending}
use Rattle.ring_core.specs.Writes.{all_written}
use Rattle.ring_core.specs.declared.log.Ticket.{Ticket}
use Rattle.device_model.specs.Parts.{Completion, IsSeen, Outcome, Slot}
use Rattle.device_model.specs.World.{PlainQueue, PlainWorld, change}
use Rattle.device_model.specs.Transitions.{Transition, action_of, completion_of}
use Rattle.device_model.specs.Changing.{bit, arriving, taking, slotted, broken_by, completing, directing, spending}
use Rattle.device_model.specs.After.{after}
use Rattle.device_model.specs.Happens.{Happens}
use Rattle.device_model.specs.Laws.{IsCountedBy, NoneIsCounted}
use Rattle.device_model.proofs.Lists.{same, get_change, stays}
use Rattle.ring_core.specs.Offer.{wants_notice}

answers : {t : Ticket} → Some t ≡ None → ⊥
answers e = cc

no_completion : {xs : Completion} → None ≡ Some xs → ⊥
no_completion e = cc

same_completion : {xs ys : Completion} → Some xs ≡ Some ys → xs ≡ ys
same_completion e = cc

-- the queue of the chain is changed so that it counts this
abbrev Now : Ticket → Completion → List PlainQueue → List PlainQueue → Type 0
Now t xs old new =
    (q r : PlainQueue) × (slice_get old t.queue ≡ Some q) × (slice_get new t.queue ≡ Some r)
    × (r.notices ≡ q.notices + bit (wants_notice r.ring xs.seen))

counted_there : (g : PlainQueue → PlainQueue) (u t : Ticket) (xs ys : Completion) (qs : List PlainQueue) (q : PlainQueue)
    → slice_get qs u.queue ≡ Some q
    → ((z : PlainQueue) → (g z).notices ≡ z.notices + bit (wants_notice (g z).ring xs.seen)) → Some u ≡ Some t
    → Some xs ≡ Some ys → Now t ys qs (change g u.queue qs)
counted_there g u t xs ys qs q at e is so =
    let P : Ticket → Type 0 = λ s. Now s xs qs (change g u.queue qs) in
    let Q : Completion → Type 0 = λ z. Now t z qs (change g u.queue qs) in
    subst Q (same_completion so) (subst P (same is) (q, g q, at, get_change g u.queue qs q at, e q))

pub is_counted : (d : Transition) (w : PlainWorld) (t : Ticket) (ys : Completion) → Happens d w
    → (action_of d).answered ≡ Some t → completion_of d ≡ Some ys → IsCountedBy t ys.seen w (after d w)
is_counted (Transition.UseBuffer f xs) w t ys h e so =
    let g = spending xs.seen f.chain in
    counted_there g f.chain.ticket t xs ys w.queues h.finds.queue h.finds.there (λ z. refl) e so
is_counted (Transition.Direct c o xs) w t ys h e so =
    counted_there (directing xs.seen c) c.ticket t xs ys w.queues h.queue h.there (λ z. refl) e so
is_counted (Transition.Answer k x o xs) w t ys h e so =
    let g = completing xs.seen x.chain in
    counted_there g x.chain.ticket t xs ys w.queues h.queue h.there (λ z. refl) e so
is_counted (Transition.Respond c r xs) w t ys h e so =
    counted_there (completing xs.seen c) c.ticket t xs ys w.queues h.queue h.there (λ z. refl) e so
is_counted (Transition.Give r c xs) w t ys h e so =
    counted_there (completing xs.seen c) c.ticket t xs ys w.queues h.queue h.there (λ z. refl) e so
is_counted (Transition.Idle e) w t ys h is so = absurd h
is_counted (Transition.Poke x) w t ys h e so = absurd (no_completion so)
is_counted d w t ys h e so = absurd (no_completion so)

-- a change of one queue that counts nothing
uncounted : (g : PlainQueue → PlainQueue) (k : ℕ) (qs : List PlainQueue)
    → ((z : PlainQueue) → (g z).notices ≡ z.notices) → (i : ℕ) (q : PlainQueue) → slice_get qs i ≡ Some q
    → (r : PlainQueue) × (slice_get (change g k qs) i ≡ Some r) × (r.notices ≡ q.notices)
uncounted g k qs e i q at = stays (λ (z : PlainQueue). z.notices) g k qs e i q at

pub none_is_counted : (d : Transition) (w : PlainWorld) → Happens d w → (action_of d).answered ≡ None
    → NoneIsCounted w (after d w)
none_is_counted (Transition.Arrive f x) w h e =
    uncounted (arriving f.chain (Slot.Arrived x)) f.chain.ticket.queue w.queues (λ z. refl)
none_is_counted (Transition.Refuse f a) w h e =
    uncounted (arriving f.chain (Slot.Direct f.chain (Outcome.Decided a))) f.chain.ticket.queue w.queues (λ z. refl)
none_is_counted (Transition.Open f g) w h e = uncounted (taking f.chain) f.chain.ticket.queue w.queues (λ z. refl)
none_is_counted (Transition.Hold f) w h e = uncounted (taking f.chain) f.chain.ticket.queue w.queues (λ z. refl)
none_is_counted (Transition.Break k n) w h e = uncounted (broken_by n) k w.queues (λ z. refl)
none_is_counted (Transition.Run x) w h e = uncounted (slotted Slot.Empty) x.chain.ticket.queue w.queues (λ z. refl)
none_is_counted (Transition.Park x) w h e = uncounted (slotted Slot.Empty) x.chain.ticket.queue w.queues (λ z. refl)
none_is_counted (Transition.EnterFull x) w h e =
    uncounted (slotted (Slot.Direct x.chain (Outcome.Ended Ending.Full))) x.chain.ticket.queue w.queues (λ z. refl)
none_is_counted (Transition.EnterBusy x) w h e =
    uncounted (slotted (Slot.Direct x.chain (Outcome.Ended Ending.Busy))) x.chain.ticket.queue w.queues (λ z. refl)
none_is_counted (Transition.UseBuffer f xs) w h e = absurd (answers e)
none_is_counted (Transition.Direct c o xs) w h e = absurd (answers e)
none_is_counted (Transition.Answer k x o xs) w h e = absurd (answers e)
none_is_counted (Transition.Respond c r xs) w h e = absurd (answers e)
none_is_counted (Transition.Give r c xs) w h e = absurd (answers e)
none_is_counted (Transition.EnterStale x) w h e = absurd h
none_is_counted (Transition.CommitUnknown k x) w h e = absurd h
none_is_counted (Transition.Idle e) w h is = absurd h
none_is_counted d w h e = λ i q at. (q, at, refl)

-- memory of the device's own

own_seen : (shared : Bool) (left seen : List ℕ) → shared ≡ false → IsSeen shared left seen → seen ≡ left
own_seen shared left seen e h = subst (λ b. IsSeen b left seen) e h

left : (w : PlainWorld) (xs ys : Completion) → w.shared ≡ false
    → IsSeen w.shared (all_written w.memory xs.writes) xs.seen → Some xs ≡ Some ys
    → ys.seen ≡ all_written w.memory xs.writes
left w xs ys own h so =
    ap (λ (z : Completion). z.seen) (sym (same_completion so))
    ∙ own_seen w.shared (all_written w.memory xs.writes) xs.seen own h

pub as_it_left : (d : Transition) (w : PlainWorld) (ys : Completion) → w.shared ≡ false → Happens d w
    → completion_of d ≡ Some ys → ys.seen ≡ (after d w).memory
as_it_left (Transition.UseBuffer f xs) w ys own h so = left w xs ys own h.seen so
as_it_left (Transition.Direct c o xs) w ys own h so = left w xs ys own h.seen so
as_it_left (Transition.Answer k x o xs) w ys own h so = left w xs ys own h.seen so
as_it_left (Transition.Respond c r xs) w ys own h so = left w xs ys own h.seen so
as_it_left (Transition.Give r c xs) w ys own h so = left w xs ys own h.seen so
as_it_left (Transition.Idle e) w ys own h so = absurd h
as_it_left (Transition.Poke x) w ys own h so = absurd (no_completion so)
as_it_left d w ys own h so = absurd (no_completion so)
