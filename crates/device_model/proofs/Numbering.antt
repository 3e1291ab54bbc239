-- The chains that a queue accepted are numbered from 0 on.
use Rattle.std.proofs.Common.{◌≡◌, ℕ, List, [], ◌∷◌, ◌++◌, refl, sym, ◌∙◌, ap, subst, suc, arith}
use Rattle.std.specs.Prelude.{length}
use Rattle.std.proofs.lemmas.List.{length-append}
use Rattle.unit_model.specs.Endings.{Ending}
use Rattle.ring_core.specs.State.{tickets}
use Rattle.ring_core.specs.declared.log.Ticket.{Ticket}
use Rattle.device_model.specs.Parts.{Outcome, Slot}
use Rattle.device_model.specs.World.{PlainQueue, PlainWorld, Opens, IsNewQueue, change, Everywhere}
use Rattle.device_model.specs.Transitions.{Transition}
use Rattle.device_model.specs.Changing.{arriving, taking, slotted, broken_by, completing, directing, spending}
use Rattle.device_model.specs.After.{after}
use Rattle.device_model.specs.Happens.{MayHappen}
use Rattle.device_model.specs.Lawful.{IsNumbered, AreNumbered}
use Rattle.device_model.proofs.Staying.{everywhere}

abbrev ticket : ℕ → ℕ → Ticket
ticket i n = record { queue = i; number = n }

one_more : (i q : ℕ) (ts : List Ticket) → q ≡ i → ts ≡ tickets i (length ts)
    → ts ++ ticket q (length ts) ∷ [] ≡ tickets i (length (ts ++ ticket q (length ts) ∷ []))
unfolding tickets
one_more i q ts is h =
    let t = ticket i (length ts) in
    let more : length (ts ++ t ∷ []) ≡ suc (length ts) = omega (arith, length-append ts (t ∷ [])) in
    let now : ts ++ t ∷ [] ≡ tickets i (length ts) ++ t ∷ [] = ap (λ (l : List Ticket). l ++ t ∷ []) h in
    subst (λ k. ts ++ ticket k (length ts) ∷ [] ≡ tickets i (length (ts ++ ticket k (length ts) ∷ []))) (sym is)
    (now ∙ ap (λ n. tickets i n) (sym more))

-- the queue accepts one more
accepts : (i : ℕ) (q r : PlainQueue) → r.ring.queue ≡ q.ring.queue
    → r.ring.log.accepted ≡ q.ring.log.accepted ++ ticket q.ring.queue (length q.ring.log.accepted) ∷ []
    → IsNumbered i q → IsNumbered i r
accepts i q r e a h =
    record {
      queue = e ∙ h.queue;
      accepted = subst (λ (l : List Ticket). l ≡ tickets i (length l)) (sym a)
          (one_more i q.ring.queue q.ring.log.accepted h.queue h.accepted);
    }

-- it accepts none
keeps : (i : ℕ) (q r : PlainQueue) → r.ring.queue ≡ q.ring.queue → r.ring.log.accepted ≡ q.ring.log.accepted
    → IsNumbered i q → IsNumbered i r
keeps i q r e a h =
    record {
      queue = e ∙ h.queue;
      accepted = subst (λ (l : List Ticket). l ≡ tickets i (length l)) (sym a) h.accepted;
    }

accepting_one : (g : PlainQueue → PlainQueue) (k : ℕ) (qs : List PlainQueue)
    → ((q : PlainQueue) → (g q).ring.queue ≡ q.ring.queue)
    → ((q : PlainQueue) → (g q).ring.log.accepted
    ≡ q.ring.log.accepted ++ ticket q.ring.queue (length q.ring.log.accepted) ∷ [])
    → Everywhere IsNumbered qs → Everywhere IsNumbered (change g k qs)
accepting_one g k qs e a h = everywhere IsNumbered g k qs (λ q at n. accepts k q (g q) (e q) (a q) n) h

accepting_none : (g : PlainQueue → PlainQueue) (k : ℕ) (qs : List PlainQueue)
    → ((q : PlainQueue) → (g q).ring.queue ≡ q.ring.queue)
    → ((q : PlainQueue) → (g q).ring.log.accepted ≡ q.ring.log.accepted)
    → Everywhere IsNumbered qs → Everywhere IsNumbered (change g k qs)
accepting_none g k qs e a h = everywhere IsNumbered g k qs (λ q at n. keeps k q (g q) (e q) (a q) n) h

-- a new queue has accepted none
pub new_numbered : (w : PlainWorld) → Opens w → AreNumbered w
unfolding tickets
new_numbered w o i q at =
    let n : IsNewQueue i q = o.queues i q at in
    record {
      queue = n.numbered;
      accepted = subst (λ (l : List Ticket). l ≡ tickets i (length l)) (sym n.accepted) refl;
    }

pub transition_numbers : (d : Transition) (w : PlainWorld) → MayHappen d w → AreNumbered w → AreNumbered (after d w)
transition_numbers (Transition.Arrive f x) w m h =
    let g = arriving f.chain (Slot.Arrived x) in
    accepting_one g f.chain.ticket.queue w.queues (λ q. refl) (λ q. refl) h
transition_numbers (Transition.Refuse f a) w m h =
    let g = arriving f.chain (Slot.Direct f.chain (Outcome.Decided a)) in
    accepting_one g f.chain.ticket.queue w.queues (λ q. refl) (λ q. refl) h
transition_numbers (Transition.Open f g) w m h =
    accepting_one (taking f.chain) f.chain.ticket.queue w.queues (λ q. refl) (λ q. refl) h
transition_numbers (Transition.Hold f) w m h =
    accepting_one (taking f.chain) f.chain.ticket.queue w.queues (λ q. refl) (λ q. refl) h
transition_numbers (Transition.UseBuffer f xs) w m h =
    let g = spending xs.seen f.chain in
    accepting_one g f.chain.ticket.queue w.queues (λ q. refl) (λ q. refl) h
transition_numbers (Transition.Break k n) w m h = accepting_none (broken_by n) k w.queues (λ q. refl) (λ q. refl) h
transition_numbers (Transition.Run x) w m h =
    accepting_none (slotted Slot.Empty) x.chain.ticket.queue w.queues (λ q. refl) (λ q. refl) h
transition_numbers (Transition.Park x) w m h =
    accepting_none (slotted Slot.Empty) x.chain.ticket.queue w.queues (λ q. refl) (λ q. refl) h
transition_numbers (Transition.EnterFull x) w m h =
    let g = slotted (Slot.Direct x.chain (Outcome.Ended Ending.Full)) in
    accepting_none g x.chain.ticket.queue w.queues (λ q. refl) (λ q. refl) h
transition_numbers (Transition.EnterBusy x) w m h =
    let g = slotted (Slot.Direct x.chain (Outcome.Ended Ending.Busy)) in
    accepting_none g x.chain.ticket.queue w.queues (λ q. refl) (λ q. refl) h
transition_numbers (Transition.EnterStale x) w m h =
    let g = slotted (Slot.Direct x.chain (Outcome.Ended Ending.Lost)) in
    accepting_none g x.chain.ticket.queue w.queues (λ q. refl) (λ q. refl) h
transition_numbers (Transition.Direct c o xs) w m h =
    let g = directing xs.seen c in
    accepting_none g c.ticket.queue w.queues (λ q. refl) (λ q. refl) h
transition_numbers (Transition.Answer k x o xs) w m h =
    let g = completing xs.seen x.chain in
    accepting_none g x.chain.ticket.queue w.queues (λ q. refl) (λ q. refl) h
transition_numbers (Transition.Respond c r xs) w m h =
    let g = completing xs.seen c in
    accepting_none g c.ticket.queue w.queues (λ q. refl) (λ q. refl) h
transition_numbers (Transition.Give e c xs) w m h =
    let g = completing xs.seen c in
    accepting_none g c.ticket.queue w.queues (λ q. refl) (λ q. refl) h
transition_numbers d w m h = h
