-- Each chain that stands somewhere is outstanding in its queue, in every world that is reached.
use Rattle.std.proofs.Common.{◌≡◌, ℕ, ◌+◌, ◌≤◌, ◌&&◌, eqb, true, List, [], ◌∷◌, Some, refl, sym, ◌∙◌, ap, subst, arith, inl, inr}
use Rattle.std.specs.Prelude.{slice_get}
use Rattle.std.specs.List.{AllByRecursion, sum_by}
use Rattle.std.proofs.lemmas.Bool.{eq-eqb}
use Rattle.std.proofs.lemmas.List.Sums.{sum_by-cons}
use Rattle.unit_model.specs.Endings.{Ending}
use Rattle.ring_core.specs.State.{PlainChain, Owns}
use Rattle.ring_core.specs.declared.log.Ticket.{Ticket}
use Rattle.device_model.specs.Parts.{PlainFetch, Outcome, Slot, Hand}
use Rattle.device_model.specs.World.{PlainQueue, PlainWorld, Opens, change, all_off}
use Rattle.device_model.specs.Transitions.{Transition}
use Rattle.device_model.specs.Changing.{bit, arriving, taking, slotted, broken_by, completing, directing, spending}
use Rattle.device_model.specs.After.{after}
use Rattle.device_model.specs.Happens.{MayHappen, Occurrence, Runs}
use Rattle.device_model.specs.Event.Fetch.{Finds}
use Rattle.device_model.specs.Lawful.{AreNumbered}
use Rattle.device_model.specs.Places.{only, standing_count}
use Rattle.device_model.specs.Standing.{IsOwned, IsJob, AreOwned, SlotOwns, HandOwns, FunctionOwns}
use Rattle.device_model.proofs.Lists.{same, get_change, there_change, at_other}
use Rattle.device_model.proofs.Staying.{run_keeps}
use Rattle.device_model.proofs.Numbering.{new_numbered, transition_numbers}
use Rattle.device_model.proofs.Places.{moves, balanced}
use Rattle.device_model.proofs.Once.{once}
use Rattle.device_model.proofs.Outstanding.{free, owns_accepting, owns_using, owns_spending}
use Rattle.device_model.proofs.Chains.{Stand, JobsOwn, BufferOwns, Brings, weightless, places, turn, no_weight}
use Rattle.device_model.proofs.Off.{none_between, between_parts}

-- One queue changes

-- what the changed queue still owns is owned
owned_after : (w v : PlainWorld) (g : PlainQueue → PlainQueue) (k : ℕ) (q : PlainQueue) (c : PlainChain)
    → slice_get w.queues k ≡ Some q → v.queues ≡ change g k w.queues → (Owns q.ring c → Owns (g q).ring c)
    → IsOwned w c → IsOwned v c
owned_after w v g k q c there is f o =
    let i = c.ticket.queue in
    let t = there_change g k w.queues i o.queue o.there in
    let a = at_other g k w.queues i t.0 t.1 in
    let was : a.0 ≡ o.queue = same (sym a.1 ∙ o.there) in
    let old : Owns a.0.ring c = subst (λ (z : PlainQueue). Owns z.ring c) (sym was) o.owned in
    record {
      queue = t.0;
      there = ap (λ l. slice_get l i) is ∙ t.1;
      owned =
          elim a.2 [
            | inl p ↦
                let here : a.0 ≡ q = same (sym a.1 ∙ ap (λ j. slice_get w.queues j) p.0 ∙ there) in
                subst (λ (z : PlainQueue). Owns z.ring c) (sym (p.1 ∙ ap g here))
                (f (subst (λ (z : PlainQueue). Owns z.ring c) here old))
            | inr p ↦ subst (λ (z : PlainQueue). Owns z.ring c) (sym p.1) old
          ];
    }

-- no queue changes
owned_still : (w v : PlainWorld) (c : PlainChain) → v.queues ≡ w.queues → IsOwned w c → IsOwned v c
owned_still w v c is o =
    record { queue = o.queue; there = ap (λ l. slice_get l c.ticket.queue) is ∙ o.there; owned = o.owned }

-- the chain that was taken
taken : (w v : PlainWorld) (f : PlainFetch) (g : PlainQueue → PlainQueue) (h : Finds w f)
    → v.queues ≡ change g f.chain.ticket.queue w.queues → Owns (g h.queue).ring f.chain → IsOwned v f.chain
taken w v f g h is o =
    record {
      queue = g h.queue;
      there =
          ap (λ l. slice_get l f.chain.ticket.queue) is
          ∙ get_change g f.chain.ticket.queue w.queues h.queue h.there;
      owned = o;
    }

-- a chain that was owned before one was taken
took : (w v : PlainWorld) (f : PlainFetch) (g : PlainQueue → PlainQueue) (h : Finds w f) (c : PlainChain)
    → v.queues ≡ change g f.chain.ticket.queue w.queues → (Owns h.queue.ring c → Owns (g h.queue).ring c)
    → IsOwned w c → IsOwned v c
took w v f g h c is o = owned_after w v g f.chain.ticket.queue h.queue c h.there is o

-- A transition accepts a chain before it stands, and uses one that stands no more

-- the world that owns what moves
abbrev meantime : Transition → PlainWorld → PlainWorld
meantime (Transition.Direct c o xs) w = w
meantime (Transition.Answer k x o xs) w = w
meantime (Transition.Respond c r xs) w = w
meantime (Transition.Give e c xs) w = w
meantime d w = after d w

-- what is owned before
first_owned : (d : Transition) (w : PlainWorld) → MayHappen d w → (c : PlainChain) → IsOwned w c → IsOwned (meantime d w) c
first_owned (Transition.Arrive f x) w m c o =
    let r = m.finds.queue.ring in
    let none = free r w.memory f.chain f.bytes _ m.finds.taken in
    took w (after (Transition.Arrive f x) w) f (arriving f.chain (Slot.Arrived x)) m.finds c refl
    (owns_accepting r c f.chain.id f.chain.slots none) o
first_owned (Transition.Refuse f a) w m c o =
    let r = m.finds.queue.ring in
    let none = free r w.memory f.chain f.bytes _ m.finds.taken in
    let g = arriving f.chain (Slot.Direct f.chain (Outcome.Decided a)) in
    took w (after (Transition.Refuse f a) w) f g m.finds c refl (owns_accepting r c f.chain.id f.chain.slots none) o
first_owned (Transition.Open f g) w m c o =
    let r = m.finds.queue.ring in
    let none = free r w.memory f.chain f.bytes _ m.finds.taken in
    took w (after (Transition.Open f g) w) f (taking f.chain) m.finds c refl
    (owns_accepting r c f.chain.id f.chain.slots none) o
first_owned (Transition.Hold f) w m c o =
    let r = m.finds.queue.ring in
    let none = free r w.memory f.chain f.bytes _ m.finds.taken in
    took w (after (Transition.Hold f) w) f (taking f.chain) m.finds c refl
    (owns_accepting r c f.chain.id f.chain.slots none) o
first_owned (Transition.UseBuffer f xs) w m c o =
    let r = m.finds.queue.ring in
    let none = free r w.memory f.chain f.bytes _ m.finds.taken in
    took w (after (Transition.UseBuffer f xs) w) f (spending xs.seen f.chain) m.finds c refl
    (owns_spending r c f.chain none) o
first_owned (Transition.Break k n) w m c o =
    owned_after w (after (Transition.Break k n) w) (broken_by n) k m.queue c m.there refl
    (λ z. record { outstanding = z.outstanding; queue = z.queue; memory = z.memory }) o
first_owned (Transition.Run x) w m c o =
    let g = slotted Slot.Empty in
    owned_after w (after (Transition.Run x) w) g x.chain.ticket.queue m.comes.queue c m.comes.there refl (λ z. z) o
first_owned (Transition.Park x) w m c o =
    let g = slotted Slot.Empty in
    owned_after w (after (Transition.Park x) w) g x.chain.ticket.queue m.comes.queue c m.comes.there refl (λ z. z) o
first_owned (Transition.EnterFull x) w m c o =
    let g = slotted (Slot.Direct x.chain (Outcome.Ended Ending.Full)) in
    owned_after w (after (Transition.EnterFull x) w) g x.chain.ticket.queue m.comes.queue c m.comes.there refl (λ z. z) o
first_owned (Transition.EnterBusy x) w m c o =
    let g = slotted (Slot.Direct x.chain (Outcome.Ended Ending.Busy)) in
    owned_after w (after (Transition.EnterBusy x) w) g x.chain.ticket.queue m.comes.queue c m.comes.there refl (λ z. z) o
first_owned (Transition.EnterStale x) w m c o =
    let g = slotted (Slot.Direct x.chain (Outcome.Ended Ending.Lost)) in
    owned_after w (after (Transition.EnterStale x) w) g x.chain.ticket.queue m.comes.queue c m.comes.there refl (λ z. z) o
first_owned (Transition.Direct u a xs) w m c o = o
first_owned (Transition.Answer k x a xs) w m c o = o
first_owned (Transition.Respond u r xs) w m c o = o
first_owned (Transition.Give e u xs) w m c o = o
first_owned d w m c o = owned_still w (after d w) c refl o

-- what is accepted
brought : (d : Transition) (w : PlainWorld) → MayHappen d w → Brings (meantime d w) d
brought (Transition.Arrive f x) w m =
    taken w (after (Transition.Arrive f x) w) f (arriving f.chain (Slot.Arrived x)) m.finds refl m.finds.taken.owned
brought (Transition.Refuse f a) w m =
    let g = arriving f.chain (Slot.Direct f.chain (Outcome.Decided a)) in
    taken w (after (Transition.Refuse f a) w) f g m.finds refl m.finds.taken.owned
brought (Transition.Open f g) w m =
    taken w (after (Transition.Open f g) w) f (taking f.chain) m.finds refl m.finds.taken.owned
brought (Transition.Hold f) w m = taken w (after (Transition.Hold f) w) f (taking f.chain) m.finds refl m.finds.taken.owned
brought d w m = tt

-- the ticket that a transition uses, of a chain that stood
abbrev spared : Transition → Ticket → ℕ
spared (Transition.Direct c o xs) = only c.ticket
spared (Transition.Answer k x o xs) = only x.chain.ticket
spared (Transition.Respond c r xs) = only c.ticket
spared (Transition.Give e c xs) = only c.ticket
spared d = weightless

-- a chain is used: another stays owned
used : (w v : PlainWorld) (g : PlainQueue → PlainQueue) (u : PlainChain) (q : PlainQueue) (c : PlainChain)
    → slice_get w.queues u.ticket.queue ≡ Some q → v.queues ≡ change g u.ticket.queue w.queues
    → ((Owns q.ring u) → Owns q.ring c → Owns (g q).ring c) → IsOwned w u → IsOwned w c → IsOwned v c
used w v g u q c there is f own o =
    let now : own.queue ≡ q = same (sym own.there ∙ there) in
    let mine = subst (λ (z : PlainQueue). Owns z.ring u) now own.owned in
    owned_after w v g u.ticket.queue q c there is (f mine) o

-- what is owned afterwards
then_owned : (d : Transition) (w : PlainWorld) → MayHappen d w → Stand w w → (c : PlainChain) → IsOwned (meantime d w) c
    → spared d c.ticket ≡ 0 → IsOwned (after d w) c
then_owned (Transition.Direct u a xs) w m h c o z =
    let s = subst (SlotOwns w u.ticket.queue) m.ready (h.0 u.ticket.queue m.queue m.there) in
    used w (after (Transition.Direct u a xs) w) (directing xs.seen u) u m.queue c m.there refl
    (λ p. owns_using m.queue.ring c u p z) s.1 o
then_owned (Transition.Answer k x a xs) w m h c o z =
    let j : IsJob w x = (h.2 k (record { hand = Hand.Done x a; out = m.out }) m.seat).0 in
    used w (after (Transition.Answer k x a xs) w) (completing xs.seen x.chain) x.chain m.queue c m.there
    refl (λ p. owns_using m.queue.ring c x.chain p z) j.chain o
then_owned (Transition.Respond u r xs) w m h c o z =
    let s = (subst (FunctionOwns w) m.waiting.there h.4).1 in
    let own = subst (IsOwned w) m.chain s in
    used w (after (Transition.Respond u r xs) w) (completing xs.seen u) u m.queue c m.there refl
    (λ p. owns_using m.queue.ring c u p z) own o
then_owned (Transition.Give e u xs) w m h c o z =
    let s = subst (AllByRecursion (BufferOwns w)) m.held h.5 in
    used w (after (Transition.Give e u xs) w) (completing xs.seen u) u m.queue c m.there refl
    (λ p. owns_using m.queue.ring c u p z) s.0.1 o
then_owned (Transition.Poke x) w m h c o z = o
then_owned d w m h c o z = o

-- the chain that was used stands nowhere

abbrev pub AtMostOnce : PlainWorld → Type 0
AtMostOnce w = (t : Ticket) → standing_count (only t) w ≤ 1

-- a ticket counts itself
itself : (t : Ticket) → only t t ≡ 1
itself t =
    ap (λ z. bit (z && eqb t.number t.number)) (eq-eqb t.queue t.queue refl)
    ∙ ap (λ z. bit (true && z)) (eq-eqb t.number t.number refl)

-- a use takes away the only one
none_left : (t : Ticket) (old new : ℕ) → old ≤ 1 → new + sum_by (only t) (t ∷ []) ≡ old + 0 → new ≡ 0
none_left t old new l e =
    let a = itself t in
    let b = sum_by-cons (only t) t [] in
    omega (arith, a, b, l, e)

-- what a transition used is none of what stands
stands_nowhere : (d : Transition) (w : PlainWorld) → MayHappen d w → AtMostOnce w → standing_count (spared d) (after d w) ≡ 0
stands_nowhere (Transition.Direct c o xs) w m a =
    let p = only c.ticket in
    let d = Transition.Direct c o xs in
    none_left c.ticket (standing_count p w) (standing_count p (after d w)) (a c.ticket) (moves p d w m).standing
stands_nowhere (Transition.Answer k x o xs) w m a =
    let p = only x.chain.ticket in
    let d = Transition.Answer k x o xs in
    none_left x.chain.ticket (standing_count p w) (standing_count p (after d w)) (a x.chain.ticket) (moves p d w m).standing
stands_nowhere (Transition.Respond c r xs) w m a =
    let p = only c.ticket in
    let d = Transition.Respond c r xs in
    none_left c.ticket (standing_count p w) (standing_count p (after d w)) (a c.ticket) (moves p d w m).standing
stands_nowhere (Transition.Give e c xs) w m a =
    let p = only c.ticket in
    let d = Transition.Give e c xs in
    none_left c.ticket (standing_count p w) (standing_count p (after d w)) (a c.ticket) (moves p d w m).standing
stands_nowhere (Transition.Poke x) w m a = no_weight (after (Transition.Poke x) w)
stands_nowhere d w m a = no_weight (after d w)

-- each transition leaves what stands owned
transition_owns : (d : Transition) (w : PlainWorld) → MayHappen d w → AtMostOnce w → Stand w w → Stand (after d w) (after d w)
transition_owns d w m a h =
    let v = meantime d w in
    let before = turn weightless w v w (λ c o z. first_owned d w m c o) (no_weight w) h in
    let moved = places v d w m (brought d w m) before in
    turn (spared d) v (after d w) (after d w) (then_owned d w m h) (stands_nowhere d w m a) moved

-- From the opening

-- nothing stands in a place that is new
opens : (w : PlainWorld) → Opens w → Stand w w
opens w o = (
  λ i q at. subst (SlotOwns w i) (sym (o.queues i q at).slot) tt,
  λ i u at. subst (JobsOwn w) (sym (o.units i u at).parked) tt,
  λ k s at.
      let n = o.seats k s at in (subst (HandOwns w) (sym n.hand) tt, subst (JobsOwn w) (sym n.out) tt),
  subst (JobsOwn w) (sym (none_between w o.handed_off o.aside o.woken)) tt,
  subst (FunctionOwns w) (sym o.function) tt,
  subst (AllByRecursion (BufferOwns w)) (sym o.buffers) tt,
)

-- in all that is reached a ticket stands at most once
pub at_most_once : (old : PlainWorld) (trace : List Occurrence) (w : PlainWorld) → Opens old → Runs old trace w
    → AtMostOnce w
at_most_once old trace w o r t =
    let numbered = run_keeps AreNumbered transition_numbers old trace w (new_numbered old o) r in
    let a = once t w (balanced (only t) old trace w o r) (λ i q at. (numbered i q at).accepted) in
    omega (arith, a)

-- and what stands is owned
all_owned : (old : PlainWorld) (trace : List Occurrence) (w : PlainWorld) → Opens old → Runs old trace w → Stand w w
all_owned old [] w o r = subst (λ v. Stand v v) (sym r) (opens old o)
all_owned old (e ∷ past) w o r =
    let h = all_owned old past r.0 o r.1 in
    let a = at_most_once old past r.0 o r.1 in
    subst (λ v. Stand v v) (sym r.2.is) (transition_owns r.2.transition r.0 r.2.may a h)

-- said as the law says it
pub owned : (old : PlainWorld) (trace : List Occurrence) (w : PlainWorld) → Opens old → Runs old trace w
    → AreOwned w
owned old trace w o r =
    let h = all_owned old trace w o r in
    let b = between_parts (IsJob w) (all_off w) w.aside w.woken h.3 in
    record {
      slots = h.0;
      parked = h.1;
      seats = h.2;
      handed_off = b.0;
      aside = b.1;
      woken = b.2;
      function = h.4;
      buffers = h.5;
    }
