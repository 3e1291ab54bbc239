-- Every accepted chain stands in one place until it is used.
use Rattle.std.proofs.Common.{◌≡◌, ℕ, ◌+◌, List, [], ◌∷◌, drop, Option, Some, None, refl, sym, ap, subst, arith, suc, length, not}
use Rattle.std.specs.Prelude.{slice_get}
use Rattle.std.specs.List.{sum_by}
use Rattle.std.proofs.lemmas.List.Sums.{sum_by-cons, sum_by_push}
use Rattle.std.proofs.lemmas.List.Filters.{sum_by-filter_both}
use Rattle.unit_model.specs.Endings.{Ending}
use Rattle.unit_model.specs.Steps.{Step}
use Rattle.unit_model.specs.Released.{released}
use Rattle.ring_core.specs.State.{next_ticket}
use Rattle.ring_core.specs.declared.log.Ticket.{Ticket}
use Rattle.unit_model.specs.Jobs.{PlainJob, of_tasks, is_job_of}
use Rattle.task_mgmt.specs.Functions.{PlainFunction, marking, asking, failing, checking, step_by}
use Rattle.unit_model.specs.Unit.{PlainUnit, after as stepped, parking, dealing}
use Rattle.device_model.specs.Parts.{PlainFetch, Outcome, Slot, Hand}
use Rattle.device_model.specs.World.{PlainQueue, Seat, Opened, PlainWorld, change, Everywhere, IsNewSeat, Opens}
use Rattle.device_model.specs.Transitions.{Transition}
use Rattle.device_model.specs.Changing.{arriving, taking, slotted, broken_by, completing, directing, spending, with_chain, on_function}
use Rattle.device_model.specs.Event.Hard.{hard_code}
use Rattle.device_model.specs.After.{after}
use Rattle.device_model.specs.Happens.{MayHappen, Occurrence, Runs}
use Rattle.device_model.specs.Event.Fetch.{Finds}
use Rattle.device_model.specs.Found.{handed_out}
use Rattle.device_model.specs.Laws.{at_seat, in_hand}
use Rattle.device_model.specs.Places.{of_chain, of_job, of_slot, of_function, at_queue, at_unit, standing_count, log_accepted, log_used, accepted_count, used_count, accepted_chains, used_chains, Moves}
use Rattle.device_model.proofs.Jobs.{sum_change, turns, kept}
use Rattle.device_model.proofs.Off.{none_off}

-- one queue is changed
record Line (p : Ticket → ℕ) (old new : List PlainQueue) (q r : PlainQueue) : Type 0 where
  pub slots : sum_by (at_queue p) new + of_slot p q.slot ≡ sum_by (at_queue p) old + of_slot p r.slot
  pub accepted : sum_by (log_accepted p) new + sum_by p q.ring.log.accepted
      ≡ sum_by (log_accepted p) old + sum_by p r.ring.log.accepted
  pub used : sum_by (log_used p) new + sum_by p q.ring.log.used ≡ sum_by (log_used p) old + sum_by p r.ring.log.used

line : (p : Ticket → ℕ) (g : PlainQueue → PlainQueue) (k : ℕ) (qs : List PlainQueue) (q : PlainQueue)
    → slice_get qs k ≡ Some q → Line p qs (change g k qs) q (g q)
line p g k qs q at =
    record {
      slots = sum_change (at_queue p) g k qs q at;
      accepted = sum_change (log_accepted p) g k qs q at;
      used = sum_change (log_used p) g k qs q at;
    }

-- a unit takes a step: its jobs are those that it hands out, and those that it keeps
steps : (p : Ticket → ℕ) (s : Step) (k : ℕ) (us : List PlainUnit) (u : PlainUnit) → slice_get us k ≡ Some u
    → sum_by (at_unit p) (change (stepped s) k us) + sum_by (of_job p) (handed_out u s) ≡ sum_by (at_unit p) us
steps p s k us u at =
    let gone = released s u.steps in
    let c = sum_change (at_unit p) (stepped s) k us u at in
    let b = sum_by-filter_both (is_job_of gone) (λ j. not (is_job_of gone j)) (λ j. refl) (of_job p) u.parked in
    omega (arith, c, b)

gives_none : (jobs : List PlainJob) → of_tasks [] jobs ≡ []
gives_none [] = refl
gives_none (j ∷ jobs) = gives_none jobs

-- a step that hands out nothing
stays : (p : Ticket → ℕ) (s : Step) (k : ℕ) (us : List PlainUnit) (u : PlainUnit) → slice_get us k ≡ Some u
    → released s u.steps ≡ [] → sum_by (at_unit p) (change (stepped s) k us) ≡ sum_by (at_unit p) us
stays p s k us u at e =
    let c = steps p s k us u at in
    let b = ap (λ l. sum_by (of_job p) (of_tasks l u.parked)) e in
    let z = ap (λ l. sum_by (of_job p) l) (gives_none u.parked) in
    omega (arith, c, b, z)

parks : (p : Ticket → ℕ) (x : PlainJob) (k : ℕ) (us : List PlainUnit) (u : PlainUnit) → slice_get us k ≡ Some u
    → sum_by (at_unit p) (change (parking x) k us) ≡ sum_by (at_unit p) us + p x.chain.ticket
parks p x k us u at =
    let c = sum_change (at_unit p) (parking x) k us u at in
    let b = sum_by_push (of_job p) u.parked x in
    omega (arith, c, b)

-- a function goes on
goes_on : (p : Ticket → ℕ) (f : PlainFunction → PlainFunction) (o : Option Opened)
    → of_function p (on_function f o) ≡ of_function p o
goes_on p f None = refl
goes_on p f (Some o) = refl

-- what a fetch accepts
accepted : (p : Ticket → ℕ) (f : PlainFetch) (w : PlainWorld) (h : Finds w f)
    → sum_by p (with_chain f.chain h.queue.ring).log.accepted ≡ sum_by p h.queue.ring.log.accepted + p f.chain.ticket
accepted p f w h =
    let a = sum_by_push p h.queue.ring.log.accepted (next_ticket h.queue.ring) in
    let b = ap p h.taken.ticket in
    omega (arith, a, b)

pub moves : (p : Ticket → ℕ) (d : Transition) (w : PlainWorld) → MayHappen d w → Moves p d w (after d w)
moves p (Transition.Arrive f x) w h =
    let l = line p (arriving f.chain (Slot.Arrived x)) f.chain.ticket.queue w.queues h.finds.queue h.finds.there in
    let a = accepted p f w h.finds in
    let e = ap (of_slot p) h.finds.empty in
    let c = ap (of_chain p) h.chain in
    record {
      accepted = omega (arith, l.accepted, a);
      used = omega (arith, l.used);
      standing = omega (arith, l.slots, e, c);
    }
moves p (Transition.Refuse f a) w h =
    let g = arriving f.chain (Slot.Direct f.chain (Outcome.Decided a)) in
    let l = line p g f.chain.ticket.queue w.queues h.finds.queue h.finds.there in
    let a = accepted p f w h.finds in
    let e = ap (of_slot p) h.finds.empty in
    record {
      accepted = omega (arith, l.accepted, a);
      used = omega (arith, l.used);
      standing = omega (arith, l.slots, e);
    }
moves p (Transition.Open f g) w h =
    let l = line p (taking f.chain) f.chain.ticket.queue w.queues h.finds.queue h.finds.there in
    let a = accepted p f w h.finds in
    let e = ap (of_function p) h.closed in
    record {
      accepted = omega (arith, l.accepted, a);
      used = omega (arith, l.used);
      standing = omega (arith, l.slots, e);
    }
moves p (Transition.Hold f) w h =
    let l = line p (taking f.chain) f.chain.ticket.queue w.queues h.finds.queue h.finds.there in
    let a = accepted p f w h.finds in
    let e = sum_by_push (of_chain p) w.buffers f.chain in
    record {
      accepted = omega (arith, l.accepted, a);
      used = omega (arith, l.used);
      standing = omega (arith, l.slots, e);
    }
moves p (Transition.UseBuffer f xs) w h =
    let g = spending xs.seen f.chain in
    let l = line p g f.chain.ticket.queue w.queues h.finds.queue h.finds.there in
    let a = accepted p f w h.finds in
    let u = sum_by_push p h.finds.queue.ring.log.used f.chain.ticket in
    record {
      accepted = omega (arith, l.accepted, a);
      used = omega (arith, l.used, u);
      standing = omega (arith, l.slots);
    }
moves p (Transition.Break k n) w h =
    let l = line p (broken_by n) k w.queues h.queue h.there in
    record {
      accepted = omega (arith, l.accepted);
      used = omega (arith, l.used);
      standing = omega (arith, l.slots);
    }
moves p (Transition.Run x) w h =
    let c = h.comes in
    let l = line p (slotted Slot.Empty) x.chain.ticket.queue w.queues c.queue c.there in
    let e = ap (of_slot p) c.arrived in
    let s = stays p (Step.Enter x.entry) x.unit w.units c.unit c.unit_there refl in
    let k = kept (of_job p) (Transition.Run x) w h in
    record {
      accepted = omega (arith, l.accepted);
      used = omega (arith, l.used);
      standing = omega (arith, l.slots, e, s, k);
    }
moves p (Transition.Park x) w h =
    let c = h.comes in
    let l = line p (slotted Slot.Empty) x.chain.ticket.queue w.queues c.queue c.there in
    let e = ap (of_slot p) c.arrived in
    let s = parks p x x.unit w.units c.unit c.unit_there in
    record {
      accepted = omega (arith, l.accepted);
      used = omega (arith, l.used);
      standing = omega (arith, l.slots, e, s);
    }
moves p (Transition.EnterFull x) w h =
    let c = h.comes in
    let g = slotted (Slot.Direct x.chain (Outcome.Ended Ending.Full)) in
    let l = line p g x.chain.ticket.queue w.queues c.queue c.there in
    let e = ap (of_slot p) c.arrived in
    let s = stays p (Step.Full x.entry.ticket) x.unit w.units c.unit c.unit_there refl in
    record {
      accepted = omega (arith, l.accepted);
      used = omega (arith, l.used);
      standing = omega (arith, l.slots, e, s);
    }
moves p (Transition.EnterBusy x) w h =
    let c = h.comes in
    let g = slotted (Slot.Direct x.chain (Outcome.Ended Ending.Busy)) in
    let l = line p g x.chain.ticket.queue w.queues c.queue c.there in
    let e = ap (of_slot p) c.arrived in
    record {
      accepted = omega (arith, l.accepted);
      used = omega (arith, l.used);
      standing = omega (arith, l.slots, e);
    }
moves p (Transition.EnterStale x) w h =
    let c = h.comes in
    let g = slotted (Slot.Direct x.chain (Outcome.Ended Ending.Lost)) in
    let l = line p g x.chain.ticket.queue w.queues c.queue c.there in
    let e = ap (of_slot p) c.arrived in
    record {
      accepted = omega (arith, l.accepted);
      used = omega (arith, l.used);
      standing = omega (arith, l.slots, e);
    }
moves p (Transition.Direct c o xs) w h =
    let l = line p (directing xs.seen c) c.ticket.queue w.queues h.queue h.there in
    let u = sum_by_push p h.queue.ring.log.used c.ticket in
    let e = ap (of_slot p) h.ready in
    record {
      accepted = omega (arith, l.accepted);
      used = omega (arith, l.used, u);
      standing = omega (arith, l.slots, e);
    }
moves p (Transition.Put k x) w h =
    let k = kept (of_job p) (Transition.Put k x) w h in
    record { accepted = omega (arith); used = omega (arith); standing = omega (arith, k) }
moves p (Transition.Keep k x) w h =
    let k = kept (of_job p) (Transition.Keep k x) w h in
    record { accepted = omega (arith); used = omega (arith); standing = omega (arith, k) }
moves p (Transition.Take k from x) w h =
    let k = kept (of_job p) (Transition.Take k from x) w h in
    record { accepted = omega (arith); used = omega (arith); standing = omega (arith, k) }
moves p (Transition.Commit k x r) w h =
    let s = stays p (Step.Commit x.entry.ticket r) x.unit w.units h.holds.unit h.holds.there refl in
    let k = kept (of_job p) (Transition.Commit k x r) w h in
    record { accepted = omega (arith); used = omega (arith); standing = omega (arith, s, k) }
moves p (Transition.CommitBusy k x) w h =
    let s = stays p (Step.Busy x.entry.ticket) x.unit w.units h.holds.unit h.holds.there refl in
    let k = kept (of_job p) (Transition.CommitBusy k x) w h in
    record { accepted = omega (arith); used = omega (arith); standing = omega (arith, s, k) }
moves p (Transition.CommitAborted k x why) w h =
    let k = kept (of_job p) (Transition.CommitAborted k x why) w h in
    record { accepted = omega (arith); used = omega (arith); standing = omega (arith, k) }
moves p (Transition.CommitUnknown k x) w h =
    let new = Hand.Done x (Outcome.Ended Ending.Lost) in
    let t = turns (of_job p) k w.seats (Hand.Taken x) new h.holds.out h.holds.seat in
    record { accepted = omega (arith); used = omega (arith); standing = omega (arith, t) }
moves p (Transition.Defer k x) w h =
    let k = kept (of_job p) (Transition.Defer k x) w h in
    record { accepted = omega (arith); used = omega (arith); standing = omega (arith, k) }
moves p (Transition.Withhold k x r) w h =
    let s = stays p (Step.Commit x.entry.ticket r) x.unit w.units h.holds.unit h.holds.there refl in
    let k = kept (of_job p) (Transition.Withhold k x r) w h in
    record { accepted = omega (arith); used = omega (arith); standing = omega (arith, s, k) }
moves p (Transition.Conclude k x r) w h =
    let k = kept (of_job p) (Transition.Conclude k x r) w h in
    record { accepted = omega (arith); used = omega (arith); standing = omega (arith, k) }
moves p Transition.Wake w h =
    let k = kept (of_job p) Transition.Wake w h in
    record { accepted = omega (arith); used = omega (arith); standing = omega (arith, k) }
moves p (Transition.Resume k x) w h =
    let k = kept (of_job p) (Transition.Resume k x) w h in
    record { accepted = omega (arith); used = omega (arith); standing = omega (arith, k) }
moves p (Transition.Answer k x o xs) w h =
    let l = line p (completing xs.seen x.chain) x.chain.ticket.queue w.queues h.queue h.there in
    let u = sum_by_push p h.queue.ring.log.used x.chain.ticket in
    let k = kept (of_job p) (Transition.Answer k x o xs) w h in
    record {
      accepted = omega (arith, l.accepted);
      used = omega (arith, l.used, u);
      standing = omega (arith, l.slots, k);
    }
moves p (Transition.Leave k unit_index t jobs) w h =
    let s = steps p (Step.Leave t) unit_index w.units h.holds.unit h.holds.there in
    let j = ap (λ l. sum_by (of_job p) l) h.enables in
    let k = kept (of_job p) (Transition.Leave k unit_index t jobs) w h in
    record { accepted = omega (arith); used = omega (arith); standing = omega (arith, s, j, k) }
moves p (Transition.Mark t m how jobs) w h =
    let s = steps p (step_by how) m.unit w.units h.marking.unit h.marking.unit_there in
    let j = ap (λ l. sum_by (of_job p) l) h.releases in
    let k = kept (of_job p) (Transition.Mark t m how jobs) w h in
    let f = goes_on p (marking m) w.function in
    record { accepted = omega (arith); used = omega (arith); standing = omega (arith, s, j, k, f) }
moves p (Transition.Hard m jobs) w h =
    let s = steps p (Step.Reset hard_code) m.unit w.units h.unit h.there in
    let j = ap (λ l. sum_by (of_job p) l) h.releases in
    let k = kept (of_job p) (Transition.Hard m jobs) w h in
    record { accepted = omega (arith); used = omega (arith); standing = omega (arith, s, j, k) }
moves p (Transition.Resize unit_index blocks) w h =
    let s = stays p (Step.Resize blocks) unit_index w.units h.unit h.there refl in
    record { accepted = omega (arith); used = omega (arith); standing = omega (arith, s) }
moves p (Transition.Deal unit_index x) w h =
    let s = sum_change (at_unit p) (dealing x) unit_index w.units h.unit h.there in
    record { accepted = omega (arith); used = omega (arith); standing = omega (arith, s) }
moves p (Transition.Ask t unit_index rule b) w h =
    let f = goes_on p (asking b) w.function in
    record { accepted = omega (arith); used = omega (arith); standing = omega (arith, f) }
moves p (Transition.MarkRefused t) w h =
    let f = goes_on p failing w.function in
    record { accepted = omega (arith); used = omega (arith); standing = omega (arith, f) }
moves p (Transition.Check t m) w h =
    let f = goes_on p checking w.function in
    record { accepted = omega (arith); used = omega (arith); standing = omega (arith, f) }
moves p (Transition.Respond c r xs) w h =
    let l = line p (completing xs.seen c) c.ticket.queue w.queues h.queue h.there in
    let u = sum_by_push p h.queue.ring.log.used c.ticket in
    let f = ap (of_function p) h.waiting.there in
    let e = ap (of_chain p) h.chain in
    record {
      accepted = omega (arith, l.accepted);
      used = omega (arith, l.used, u);
      standing = omega (arith, l.slots, f, e);
    }
moves p (Transition.Give e c xs) w h =
    let l = line p (completing xs.seen c) c.ticket.queue w.queues h.queue h.there in
    let u = sum_by_push p h.queue.ring.log.used c.ticket in
    let a = ap (λ l. sum_by (of_chain p) l) h.held in
    let b = ap (λ l. sum_by (of_chain p) (drop 1 l)) h.held in
    let n = sum_by-cons (of_chain p) c h.more in
    record {
      accepted = omega (arith, l.accepted);
      used = omega (arith, l.used, u);
      standing = omega (arith, l.slots, a, b, n);
    }
moves p d w h = record { accepted = omega (arith); used = omega (arith); standing = omega (arith) }

-- From the opening

-- a seat that is new
idle : (p : Ticket → ℕ) (s : Seat) → IsNewSeat s → at_seat (of_job p) s ≡ 0
idle p s n =
    let a = ap (in_hand (of_job p)) n.hand in
    let b = ap (λ l. sum_by (of_job p) l) n.out in
    omega (arith, a, b)

pub nothing_counts : {X : Type 0} (f : X → ℕ) (xs : List X) → Everywhere (λ i x. f x ≡ 0) xs → sum_by f xs ≡ 0
nothing_counts f [] e = refl
nothing_counts f (x ∷ xs) e =
    let a = e 0 x refl in
    let b = nothing_counts f xs (λ i y at. e (suc i) y at) in
    let c = sum_by-cons f x xs in
    omega (arith, a, b, c)

abbrev Balanced : (Ticket → ℕ) → PlainWorld → Type 0
Balanced p w = accepted_count p w ≡ standing_count p w + used_count p w

starts : (p : Ticket → ℕ) (w : PlainWorld) → Opens w → Balanced p w
starts p w o =
    let a = nothing_counts (log_accepted p) w.queues (λ i q at. ap (λ l. sum_by p l) (o.queues i q at).accepted) in
    let b = nothing_counts (log_used p) w.queues (λ i q at. ap (λ l. sum_by p l) (o.queues i q at).used) in
    let c = nothing_counts (at_queue p) w.queues (λ i q at. ap (of_slot p) (o.queues i q at).slot) in
    let d = nothing_counts (at_unit p) w.units (λ i u at. ap (λ l. sum_by (of_job p) l) (o.units i u at).parked) in
    let e = nothing_counts (at_seat (of_job p)) w.seats (λ i s at. idle p s (o.seats i s at)) in
    let f = ap (λ l. sum_by (of_job p) l) (none_off w.handed_off o.handed_off) in
    let g = ap (of_function p) o.function in
    let h = ap (λ l. sum_by (of_chain p) l) o.buffers in
    let x = ap (λ l. sum_by (of_job p) l) o.aside in
    let y = ap (λ l. sum_by (of_job p) l) o.woken in
    omega (arith, a, b, c, d, e, f, g, h, x, y)

pub balanced : (p : Ticket → ℕ) (old : PlainWorld) (trace : List Occurrence) (w : PlainWorld) → Opens old
    → Runs old trace w → Balanced p w
balanced p old [] w o r = subst (Balanced p) (sym r) (starts p old o)
balanced p old (e ∷ past) w o r =
    let b = balanced p old past r.0 o r.1 in
    let m = moves p r.2.transition r.0 r.2.may in
    subst (Balanced p) (sym r.2.is) (omega (arith, b, m.accepted, m.used, m.standing))

-- Each ticket counts once

ones : (ts : List Ticket) → sum_by (λ t. 1) ts ≡ length ts
ones [] = refl
ones (t ∷ ts) =
    let a = ones ts in
    let b = sum_by-cons (λ (s : Ticket). 1) t ts in
    omega (arith, a, b)

as_many : (f g : PlainQueue → ℕ) → ((q : PlainQueue) → f q ≡ g q) → (qs : List PlainQueue) → sum_by f qs ≡ sum_by g qs
as_many f g e [] = refl
as_many f g e (q ∷ qs) =
    let a = as_many f g e qs in
    let b = sum_by-cons f q qs in
    let c = sum_by-cons g q qs in
    let d = e q in
    omega (arith, a, b, c, d)

pub counted : (w : PlainWorld) → Balanced (λ t. 1) w → accepted_chains w ≡ standing_count (λ t. 1) w + used_chains w
counted w b =
    let p : Ticket → ℕ = λ t. 1 in
    let x = as_many (log_accepted p) (λ q. length q.ring.log.accepted) (λ q. ones q.ring.log.accepted) w.queues in
    let y = as_many (log_used p) (λ q. length q.ring.log.used) (λ q. ones q.ring.log.used) w.queues in
    omega (arith, b, x, y)
