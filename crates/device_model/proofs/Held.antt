-- The event buffers that are held are no more than the chains that the event queue has outstanding.
use Rattle.std.proofs.Common.{◌≡◌, ℕ, ◌+◌, ◌≤◌, eqb, false, List, [], ◌∷◌, ◌++◌, refl, sym, ◌∙◌, ap, subst, arith, zero, suc, length, Some}
use Rattle.std.specs.Prelude.{slice_get}
use Rattle.std.specs.List.{AllByRecursion, sum_by}
use Rattle.std.proofs.lemmas.List.Sums.{sum_by-cons}
use Rattle.std.proofs.lemmas.Bool.{eq-eqb}
use Rattle.std.proofs.Math.Dec.{eqb-suc-zero, eqb-zero-suc, eqb-suc-suc}
use Rattle.unit_model.specs.Endings.{Ending}
use Rattle.ring_core.specs.State.{PlainChain, tickets}
use Rattle.ring_core.specs.declared.log.Ticket.{Ticket}
use Rattle.device_model.specs.Parts.{Outcome, Slot}
use Rattle.device_model.specs.World.{PlainQueue, PlainWorld, Opens, change, Everywhere}
use Rattle.device_model.specs.Transitions.{Transition}
use Rattle.device_model.specs.Changing.{bit, arriving, taking, slotted, broken_by, completing, directing, spending}
use Rattle.device_model.specs.After.{after}
use Rattle.device_model.specs.Happens.{MayHappen, Occurrence, Reached}
use Rattle.device_model.specs.Lawful.{AreNumbered}
use Rattle.device_model.specs.Places.{of_chain, standing_count, log_accepted, log_used, accepted_count, used_count}
use Rattle.device_model.specs.Standing.{IsOwned, AreOwned, BuffersAreOutstanding}
use Rattle.device_model.proofs.Lists.{nothing, same}
use Rattle.device_model.proofs.Staying.{everywhere, run_keeps}
use Rattle.device_model.proofs.Numbering.{new_numbered, transition_numbers}
use Rattle.device_model.proofs.Places.{nothing_counts, balanced}
use Rattle.device_model.proofs.Owning.{owned}
use Rattle.device_model.proofs.Sums.{counts_one}
use Rattle.device_model.proofs.Named.{all_push}

-- What a queue has used is its own

abbrev IsOf : ℕ → Ticket → Type 0
IsOf i t = t.queue ≡ i

abbrev AreOf : ℕ → List Ticket → Type 0
AreOf i ts = AllByRecursion (IsOf i) ts

abbrev UsesOwn : ℕ → PlainQueue → Type 0
UsesOwn i q = AreOf i q.ring.log.used

abbrev UseOwn : PlainWorld → Type 0
UseOwn w = Everywhere UsesOwn w.queues

uses_one : (c : PlainChain) (g : PlainQueue → PlainQueue) (qs : List PlainQueue)
    → ((q : PlainQueue) → (g q).ring.log.used ≡ q.ring.log.used ++ c.ticket ∷ [])
    → Everywhere UsesOwn qs → Everywhere UsesOwn (change g c.ticket.queue qs)
uses_one c g qs e h =
    let i = c.ticket.queue in
    everywhere UsesOwn g i qs
    (λ q at n. subst (AreOf i) (sym (e q)) (all_push (IsOf i) q.ring.log.used (c.ticket ∷ []) n (refl, tt))) h

uses_none : (g : PlainQueue → PlainQueue) (k : ℕ) (qs : List PlainQueue)
    → ((q : PlainQueue) → (g q).ring.log.used ≡ q.ring.log.used) → Everywhere UsesOwn qs
    → Everywhere UsesOwn (change g k qs)
uses_none g k qs e h = everywhere UsesOwn g k qs (λ q at n. subst (AreOf k) (sym (e q)) n) h

new_uses : (w : PlainWorld) → Opens w → UseOwn w
new_uses w o i q at = subst (AreOf i) (sym (o.queues i q at).used) tt

transition_uses : (d : Transition) (w : PlainWorld) → MayHappen d w → UseOwn w → UseOwn (after d w)
transition_uses (Transition.Arrive f x) w m h =
    uses_none (arriving f.chain (Slot.Arrived x)) f.chain.ticket.queue w.queues (λ q. refl) h
transition_uses (Transition.Refuse f a) w m h =
    let g = arriving f.chain (Slot.Direct f.chain (Outcome.Decided a)) in
    uses_none g f.chain.ticket.queue w.queues (λ q. refl) h
transition_uses (Transition.Open f g) w m h = uses_none (taking f.chain) f.chain.ticket.queue w.queues (λ q. refl) h
transition_uses (Transition.Hold f) w m h = uses_none (taking f.chain) f.chain.ticket.queue w.queues (λ q. refl) h
transition_uses (Transition.UseBuffer f xs) w m h =
    uses_one f.chain (spending xs.seen f.chain) w.queues (λ q. refl) h
transition_uses (Transition.Break k n) w m h = uses_none (broken_by n) k w.queues (λ q. refl) h
transition_uses (Transition.Run x) w m h = uses_none (slotted Slot.Empty) x.chain.ticket.queue w.queues (λ q. refl) h
transition_uses (Transition.Park x) w m h = uses_none (slotted Slot.Empty) x.chain.ticket.queue w.queues (λ q. refl) h
transition_uses (Transition.EnterFull x) w m h =
    let g = slotted (Slot.Direct x.chain (Outcome.Ended Ending.Full)) in
    uses_none g x.chain.ticket.queue w.queues (λ q. refl) h
transition_uses (Transition.EnterBusy x) w m h =
    let g = slotted (Slot.Direct x.chain (Outcome.Ended Ending.Busy)) in
    uses_none g x.chain.ticket.queue w.queues (λ q. refl) h
transition_uses (Transition.EnterStale x) w m h =
    let g = slotted (Slot.Direct x.chain (Outcome.Ended Ending.Lost)) in
    uses_none g x.chain.ticket.queue w.queues (λ q. refl) h
transition_uses (Transition.Direct c o xs) w m h = uses_one c (directing xs.seen c) w.queues (λ q. refl) h
transition_uses (Transition.Answer k x o xs) w m h =
    uses_one x.chain (completing xs.seen x.chain) w.queues (λ q. refl) h
transition_uses (Transition.Respond c r xs) w m h = uses_one c (completing xs.seen c) w.queues (λ q. refl) h
transition_uses (Transition.Give e c xs) w m h = uses_one c (completing xs.seen c) w.queues (λ q. refl) h
transition_uses d w m h = h

-- What counts for one queue alone

-- 1 for a ticket of this queue, 0 for any other
abbrev of_queue : ℕ → Ticket → ℕ
of_queue k t = bit (eqb k t.queue)

here : (k : ℕ) (t : Ticket) → IsOf k t → of_queue k t ≡ 1
here k t e = ap (λ b. bit b) (eq-eqb k t.queue (sym e))

elsewhere : (k i : ℕ) (t : Ticket) → eqb k i ≡ false → IsOf i t → of_queue k t ≡ 0
elsewhere k i t n e = ap (λ j. bit (eqb k j)) e ∙ ap (λ b. bit b) n

-- its tickets count once each, those of another queue don't
counts_all : (k : ℕ) (ts : List Ticket) → AreOf k ts → sum_by (of_queue k) ts ≡ length ts
counts_all k [] h = refl
counts_all k (t ∷ ts) h =
    let a = here k t h.0 in
    let b = counts_all k ts h.1 in
    let c = sum_by-cons (of_queue k) t ts in
    omega (arith, a, b, c)

counts_no : (k i : ℕ) (ts : List Ticket) → eqb k i ≡ false → AreOf i ts → sum_by (of_queue k) ts ≡ 0
counts_no k i [] n h = refl
counts_no k i (t ∷ ts) n h =
    let a = elsewhere k i t n h.0 in
    let b = counts_no k i ts n h.1 in
    let c = sum_by-cons (of_queue k) t ts in
    omega (arith, a, b, c)

-- so do buffers of the queue
counts_buffers : (w : PlainWorld) (k : ℕ) (cs : List PlainChain)
    → AllByRecursion (λ (c : PlainChain). (c.ticket.queue ≡ k) × IsOwned w c) cs
    → sum_by (of_chain (of_queue k)) cs ≡ length cs
counts_buffers w k [] h = refl
counts_buffers w k (c ∷ cs) h =
    let a = here k c.ticket h.0.0 in
    let b = counts_buffers w k cs h.1 in
    let d = sum_by-cons (of_chain (of_queue k)) c cs in
    omega (arith, a, b, d)

-- the sum is what one item counts, where no other does
one_counts : {X : Type 0} (f : X → ℕ) (k : ℕ) (xs : List X) (x : X) → slice_get xs k ≡ Some x
    → Everywhere (λ i y. eqb k i ≡ false → f y ≡ 0) xs → sum_by f xs ≡ f x
one_counts f k [] x e n = absurd (nothing e)
one_counts f zero (y ∷ xs) x e n =
    let a = ap f (same e) in
    let b = nothing_counts f xs (λ i z at. n (suc i) z at (eqb-zero-suc i)) in
    let c = sum_by-cons f y xs in
    omega (arith, a, b, c)
one_counts f (suc k) (y ∷ xs) x e n =
    let a = n 0 y refl (eqb-suc-zero k) in
    let b = one_counts f k xs x e (λ i z at o. n (suc i) z at (eqb-suc-suc k i ∙ o)) in
    let c = sum_by-cons f y xs in
    omega (arith, a, b, c)

-- the first tickets of a queue are its own
all_of : (i n : ℕ) → AreOf i (tickets i n)
unfolding tickets
all_of i zero = tt
all_of i (suc n) = all_push (IsOf i) (tickets i n) (record { queue = i; number = n } ∷ []) (all_of i n) (refl, tt)

accepts_own : (w : PlainWorld) → AreNumbered w → Everywhere (λ i q. AreOf i q.ring.log.accepted) w.queues
accepts_own w h i q at = subst (AreOf i) (sym (h i q at).accepted) (all_of i (length q.ring.log.accepted))

-- The buffers of a queue, with those that it used, are no more than it accepted

within : (w : PlainWorld) (k : ℕ) (q : PlainQueue) → slice_get w.queues k ≡ Some q → AreNumbered w → UseOwn w
    → AllByRecursion (λ (c : PlainChain). (c.ticket.queue ≡ k) × IsOwned w c) w.buffers
    → accepted_count (of_queue k) w ≡ standing_count (of_queue k) w + used_count (of_queue k) w
    → length w.buffers + length q.ring.log.used ≤ length q.ring.log.accepted
within w k q at numbered uses buffers balance =
    let p = of_queue k in
    let own = accepts_own w numbered in
    let a = one_counts (log_accepted p) k w.queues q at
    (λ i r there n. counts_no k i r.ring.log.accepted n (own i r there)) in
    let b = counts_all k q.ring.log.accepted (own k q at) in
    let c = counts_one (log_used p) k w.queues q at in
    let d = counts_all k q.ring.log.used (uses k q at) in
    let e = counts_buffers w k w.buffers buffers in
    omega (arith, a, b, c, d, e, balance)

pub held_outstanding : (old : PlainWorld) (trace : List Occurrence) (w : PlainWorld) → Reached old trace w
    → BuffersAreOutstanding w
held_outstanding old trace w r q at =
    let numbered = run_keeps AreNumbered transition_numbers old trace w (new_numbered old r.opens) r.runs in
    let uses = run_keeps UseOwn transition_uses old trace w (new_uses old r.opens) r.runs in
    let owns : AreOwned w = owned old trace w r.opens r.runs in
    within w 1 q at numbered uses owns.buffers (balanced (of_queue 1) old trace w r.opens r.runs)
