-- The log of each queue of a reached device is lawful.
use Rattle.std.proofs.Common.{◌≡◌, ℕ, ◌<◌, ◌≤◌, Bool, true, false, eqb, List, [], ◌∷◌, ◌++◌, Some, refl, sym, ◌∙◌, ap, subst, arith, zero, suc}
use Rattle.std.specs.Prelude.{slice_get, length, nat_lt}
use Rattle.std.specs.List.{AllByRecursion}
use Rattle.std.proofs.lemmas.Bool.{eqb-true, ltb-true}
use Rattle.unit_model.specs.Endings.{Ending}
use Rattle.ring_core.specs.declared.log.Ticket.{Ticket}
use Rattle.device_model.specs.Parts.{Outcome, Slot}
use Rattle.device_model.specs.World.{PlainQueue, PlainWorld, Opens, change, Everywhere}
use Rattle.device_model.specs.Transitions.{Transition}
use Rattle.device_model.specs.Changing.{bit, arriving, taking, slotted, broken_by, completing, directing, spending}
use Rattle.device_model.specs.After.{after}
use Rattle.device_model.specs.Happens.{Occurrence, MayHappen, Reached}
use Rattle.device_model.specs.Lawful.{AreNumbered}
use Rattle.device_model.specs.Places.{log_used, used_count, only}
use Rattle.device_model.specs.Weights.{was_accepted, counts_in}
use Rattle.device_model.proofs.Lists.{nothing, same}
use Rattle.device_model.proofs.Named.{all_push}
use Rattle.device_model.proofs.Sums.{counts_one, counts_two}
use Rattle.device_model.proofs.Staying.{everywhere, run_keeps}
use Rattle.device_model.proofs.Flowing.{run_flows}
use Rattle.device_model.specs.Promise.{AreLogs, StandOnce}
use Rattle.device_model.proofs.Counts.{only_one}

-- A queue uses its own chains alone

abbrev AreOwn : ℕ → PlainQueue → Type 0
AreOwn i q = AllByRecursion (λ (t : Ticket). t.queue ≡ i) q.ring.log.used

-- it uses one more
uses_own : (g : PlainQueue → PlainQueue) (t : Ticket) (qs : List PlainQueue)
    → ((q : PlainQueue) → (g q).ring.log.used ≡ q.ring.log.used ++ t ∷ []) → Everywhere AreOwn qs
    → Everywhere AreOwn (change g t.queue qs)
uses_own g t qs e h =
    everywhere AreOwn g t.queue qs
    (λ q at n.
    subst (AllByRecursion (λ (u : Ticket). u.queue ≡ t.queue)) (sym (e q))
    (all_push (λ (u : Ticket). u.queue ≡ t.queue) q.ring.log.used (t ∷ []) n (refl, tt))) h

-- it uses none
uses_none : (g : PlainQueue → PlainQueue) (k : ℕ) (qs : List PlainQueue)
    → ((q : PlainQueue) → (g q).ring.log.used ≡ q.ring.log.used) → Everywhere AreOwn qs
    → Everywhere AreOwn (change g k qs)
uses_none g k qs e h =
    everywhere AreOwn g k qs (λ q at n. subst (AllByRecursion (λ (u : Ticket). u.queue ≡ k)) (sym (e q)) n) h

abbrev AllAreOwn : PlainWorld → Type 0
AllAreOwn w = Everywhere AreOwn w.queues

own_transition : (d : Transition) (w : PlainWorld) → MayHappen d w → AllAreOwn w → AllAreOwn (after d w)
own_transition (Transition.Arrive f x) w m h =
    uses_none (arriving f.chain (Slot.Arrived x)) f.chain.ticket.queue w.queues (λ q. refl) h
own_transition (Transition.Refuse f a) w m h =
    uses_none (arriving f.chain (Slot.Direct f.chain (Outcome.Decided a))) f.chain.ticket.queue w.queues (λ q. refl) h
own_transition (Transition.Open f g) w m h = uses_none (taking f.chain) f.chain.ticket.queue w.queues (λ q. refl) h
own_transition (Transition.Hold f) w m h = uses_none (taking f.chain) f.chain.ticket.queue w.queues (λ q. refl) h
own_transition (Transition.Break k n) w m h = uses_none (broken_by n) k w.queues (λ q. refl) h
own_transition (Transition.Run x) w m h = uses_none (slotted Slot.Empty) x.chain.ticket.queue w.queues (λ q. refl) h
own_transition (Transition.Park x) w m h = uses_none (slotted Slot.Empty) x.chain.ticket.queue w.queues (λ q. refl) h
own_transition (Transition.EnterFull x) w m h =
    uses_none (slotted (Slot.Direct x.chain (Outcome.Ended Ending.Full))) x.chain.ticket.queue w.queues (λ q. refl) h
own_transition (Transition.EnterBusy x) w m h =
    uses_none (slotted (Slot.Direct x.chain (Outcome.Ended Ending.Busy))) x.chain.ticket.queue w.queues (λ q. refl) h
own_transition (Transition.EnterStale x) w m h =
    uses_none (slotted (Slot.Direct x.chain (Outcome.Ended Ending.Lost))) x.chain.ticket.queue w.queues (λ q. refl) h
own_transition (Transition.UseBuffer f xs) w m h =
    uses_own (spending xs.seen f.chain) f.chain.ticket w.queues (λ q. refl) h
own_transition (Transition.Direct c o xs) w m h =
    uses_own (directing xs.seen c) c.ticket w.queues (λ q. refl) h
own_transition (Transition.Answer k x o xs) w m h =
    uses_own (completing xs.seen x.chain) x.chain.ticket w.queues (λ q. refl) h
own_transition (Transition.Respond c r xs) w m h =
    uses_own (completing xs.seen c) c.ticket w.queues (λ q. refl) h
own_transition (Transition.Give e c xs) w m h =
    uses_own (completing xs.seen c) c.ticket w.queues (λ q. refl) h
own_transition d w m h = h

own_new : (w : PlainWorld) → Opens w → AllAreOwn w
own_new w o i q at = subst (AllByRecursion (λ (t : Ticket). t.queue ≡ i)) (sym (o.queues i q at).used) tt

all_at : {X : Type 0} (P : X → Type 0) (xs : List X) (k : ℕ) (x : X) → AllByRecursion P xs
    → slice_get xs k ≡ Some x → P x
all_at P [] k x h e = absurd (nothing e)
all_at P (y ∷ xs) zero x h e = subst P (same e) h.0
all_at P (y ∷ xs) (suc k) x h e = all_at P xs k x h.1 e

-- What is used was accepted, and was used once

is_counted : (b : Bool) → 1 ≤ bit b → b ≡ true
is_counted true h = refl
is_counted false h = absurd (omega (arith, h))

-- a used ticket counts for its queue
used_counts : (w : PlainWorld) (i k : ℕ) (q : PlainQueue) (t : Ticket) → slice_get w.queues i ≡ Some q
    → slice_get q.ring.log.used k ≡ Some t → 1 ≤ used_count (only t) w
used_counts w i k q t at e =
    let a = counts_one (only t) k q.ring.log.used t e in
    let b = counts_one (log_used (only t)) i w.queues q at in
    let c = only_one t t refl in
    omega (arith, a, b, c)

-- and twice where it stands at two indices
used_twice : (w : PlainWorld) (i j k : ℕ) (q : PlainQueue) (t : Ticket) → slice_get w.queues i ≡ Some q
    → slice_get q.ring.log.used j ≡ Some t → slice_get q.ring.log.used k ≡ Some t → eqb j k ≡ false
    → 2 ≤ used_count (only t) w
used_twice w i j k q t at e h n =
    let a = counts_two (only t) j k q.ring.log.used t t n e h in
    let b = counts_one (log_used (only t)) i w.queues q at in
    let c = only_one t t refl in
    omega (arith, a, b, c)

-- a ticket that counts as accepted is below its queue's count
below : (w : PlainWorld) (q : PlainQueue) (t : Ticket) → slice_get w.queues t.queue ≡ Some q
    → 1 ≤ was_accepted t w → t.number < length q.ring.log.accepted
below w q t at h =
    let e : was_accepted t w ≡ bit (nat_lt t.number (length q.ring.log.accepted)) = ap (λ o. counts_in t o) at in
    ltb-true t.number (length q.ring.log.accepted)
    (is_counted (nat_lt t.number (length q.ring.log.accepted)) (omega (arith, e, h)))

same_place : (w : PlainWorld) (i j k : ℕ) (q : PlainQueue) (t : Ticket) → StandOnce w → slice_get w.queues i ≡ Some q
    → slice_get q.ring.log.used j ≡ Some t → slice_get q.ring.log.used k ≡ Some t → j ≡ k
same_place w i j k q t s at e h =
    (elim (eqb j k) as (λ b. eqb j k ≡ b → j ≡ k) [
      | true ↦ λ n. eqb-true j k n
      | false ↦ λ n.
          let a = used_twice w i j k q t at e h n in
          let b = s.once t in
          absurd (omega (arith, a, b))
    ]) refl

pub are_logs : (old : PlainWorld) (trace : List Occurrence) (w : PlainWorld) → Reached old trace w → AreNumbered w
    → StandOnce w → AreLogs w
are_logs old trace w r numbered s i q at =
    let own = run_keeps AllAreOwn own_transition old trace w (own_new old r.opens) r.runs i q at in
    let f = run_flows old trace w r.opens r.runs in
    record {
      numbered = (numbered i q at).accepted;
      used_accepted = λ k t e.
          let mine : t.queue ≡ i = all_at (λ (u : Ticket). u.queue ≡ i) q.ring.log.used k t own e in
          let there = ap (λ n. slice_get w.queues n) mine ∙ at in
          let a = used_counts w i k q t at e in
          let b = s.stands t in
          let c = f.accepted (only t) in
          let d = f.once t in
          (mine, below w q t there (omega (arith, a, b, c, d)));
      used_once = λ j k t e h. same_place w i j k q t s at e h;
    }
