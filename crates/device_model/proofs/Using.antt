-- The ticket that an action answers is the next that its queue has used.
use Rattle.std.proofs.Common.{◌≡◌, ℕ, List, [], ◌∷◌, ◌++◌, Some, None, refl, subst}
use Rattle.std.specs.Prelude.{slice_get}
use Rattle.unit_model.specs.Endings.{Ending}
use Rattle.ring_core.specs.declared.log.Ticket.{Ticket}
use Rattle.device_model.specs.Parts.{Outcome, Slot}
use Rattle.device_model.specs.World.{PlainQueue, PlainWorld, change}
use Rattle.device_model.specs.Transitions.{Transition, action_of}
use Rattle.device_model.specs.Changing.{arriving, taking, slotted, broken_by, completing, directing, spending}
use Rattle.device_model.specs.After.{after}
use Rattle.device_model.specs.Happens.{Happens}
use Rattle.device_model.specs.Laws.{IsUsedBy, NoneIsUsed}
use Rattle.device_model.proofs.Lists.{nothing, same, get_change, stays}

answers : {t : Ticket} → Some t ≡ None → ⊥
answers e = cc

-- the queue of the chain is changed so that it has used it
abbrev Now : Ticket → List PlainQueue → List PlainQueue → Type 0
Now t old new =
    (q r : PlainQueue) × (slice_get old t.queue ≡ Some q) × (slice_get new t.queue ≡ Some r)
    × (r.ring.log.used ≡ q.ring.log.used ++ t ∷ [])

used_there : (g : PlainQueue → PlainQueue) (u t : Ticket) (qs : List PlainQueue) (q : PlainQueue)
    → slice_get qs u.queue ≡ Some q → ((z : PlainQueue) → (g z).ring.log.used ≡ z.ring.log.used ++ u ∷ [])
    → Some u ≡ Some t → Now t qs (change g u.queue qs)
used_there g u t qs q at e is =
    let P : Ticket → Type 0 = λ s. Now s qs (change g u.queue qs) in
    subst P (same is) (q, g q, at, get_change g u.queue qs q at, e q)

pub is_used : (d : Transition) (w : PlainWorld) (t : Ticket) → Happens d w → (action_of d).answered ≡ Some t
    → IsUsedBy t w (after d w)
is_used (Transition.UseBuffer f xs) w t h e =
    let g = spending xs.seen f.chain in
    used_there g f.chain.ticket t w.queues h.finds.queue h.finds.there (λ z. refl) e
is_used (Transition.Direct c o xs) w t h e =
    used_there (directing xs.seen c) c.ticket t w.queues h.queue h.there (λ z. refl) e
is_used (Transition.Answer k x o xs) w t h e =
    let g = completing xs.seen x.chain in
    used_there g x.chain.ticket t w.queues h.queue h.there (λ z. refl) e
is_used (Transition.Respond c r xs) w t h e =
    used_there (completing xs.seen c) c.ticket t w.queues h.queue h.there (λ z. refl) e
is_used (Transition.Give r c xs) w t h e =
    used_there (completing xs.seen c) c.ticket t w.queues h.queue h.there (λ z. refl) e
is_used (Transition.Idle e) w t h is = absurd h
is_used (Transition.Poke x) w t h e = absurd (nothing e)
is_used d w t h e = absurd (nothing e)

-- a change of one queue that uses nothing
unused : (g : PlainQueue → PlainQueue) (k : ℕ) (qs : List PlainQueue)
    → ((z : PlainQueue) → (g z).ring.log.used ≡ z.ring.log.used) → (i : ℕ) (q : PlainQueue) → slice_get qs i ≡ Some q
    → (r : PlainQueue) × (slice_get (change g k qs) i ≡ Some r) × (r.ring.log.used ≡ q.ring.log.used)
unused g k qs e i q at = stays (λ (z : PlainQueue). z.ring.log.used) g k qs e i q at

pub none_is_used : (d : Transition) (w : PlainWorld) → Happens d w → (action_of d).answered ≡ None
    → NoneIsUsed w (after d w)
none_is_used (Transition.Arrive f x) w h e =
    unused (arriving f.chain (Slot.Arrived x)) f.chain.ticket.queue w.queues (λ z. refl)
none_is_used (Transition.Refuse f a) w h e =
    unused (arriving f.chain (Slot.Direct f.chain (Outcome.Decided a))) f.chain.ticket.queue w.queues (λ z. refl)
none_is_used (Transition.Open f g) w h e = unused (taking f.chain) f.chain.ticket.queue w.queues (λ z. refl)
none_is_used (Transition.Hold f) w h e = unused (taking f.chain) f.chain.ticket.queue w.queues (λ z. refl)
none_is_used (Transition.Break k n) w h e = unused (broken_by n) k w.queues (λ z. refl)
none_is_used (Transition.Run x) w h e = unused (slotted Slot.Empty) x.chain.ticket.queue w.queues (λ z. refl)
none_is_used (Transition.Park x) w h e = unused (slotted Slot.Empty) x.chain.ticket.queue w.queues (λ z. refl)
none_is_used (Transition.EnterFull x) w h e =
    unused (slotted (Slot.Direct x.chain (Outcome.Ended Ending.Full))) x.chain.ticket.queue w.queues (λ z. refl)
none_is_used (Transition.EnterBusy x) w h e =
    unused (slotted (Slot.Direct x.chain (Outcome.Ended Ending.Busy))) x.chain.ticket.queue w.queues (λ z. refl)
none_is_used (Transition.UseBuffer f xs) w h e = absurd (answers e)
none_is_used (Transition.Direct c o xs) w h e = absurd (answers e)
none_is_used (Transition.Answer k x o xs) w h e = absurd (answers e)
none_is_used (Transition.Respond c r xs) w h e = absurd (answers e)
none_is_used (Transition.Give r c xs) w h e = absurd (answers e)
none_is_used (Transition.EnterStale x) w h e = absurd h
none_is_used (Transition.CommitUnknown k x) w h e = absurd h
none_is_used (Transition.Idle e) w h is = absurd h
none_is_used d w h e = λ i q at. (q, at, refl)
