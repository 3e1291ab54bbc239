-- Each transition moves what it takes and gives, whatever chains weigh in each place.
use Rattle.std.proofs.Common.{◌≡◌, ℕ, ◌+◌, ◌≤◌, ◌&&◌, eqb, Bool, true, false, not, List, [], ◌∷◌, drop, length, Option, Some, None, refl, sym, ◌∙◌, ap, subst, arith, zero, suc}
use Rattle.std.specs.Prelude.{slice_get, nat_lt}
use Rattle.std.specs.List.{sum_by}
use Rattle.std.proofs.lemmas.List.Sums.{sum_by-append, sum_by-cons, sum_by_push}
use Rattle.std.proofs.lemmas.List.Filters.{sum_by-filter_both}
use Rattle.std.proofs.lemmas.Bool.Decides.{nat_tests}
use Rattle.std.proofs.Math.Dec.{eqb-suc-zero, eqb-zero-suc, eqb-suc-suc}
use Rattle.ring_core.specs.State.{tickets}
use Rattle.ring_core.specs.declared.log.Ticket.{Ticket}
use Rattle.unit_model.specs.Endings.{Ending}
use Rattle.unit_model.specs.Steps.{Step}
use Rattle.unit_model.specs.Weights.{alive_count}
use Rattle.unit_model.specs.Released.{released}
use Rattle.unit_model.proofs.Parked.{alive_enter, alive_leave}
use Rattle.unit_model.specs.Jobs.{PlainJob, of_tasks, is_job_of}
use Rattle.task_mgmt.specs.Functions.{PlainFunction, marking, asking, failing, checking, step_by}
use Rattle.task_mgmt.specs.declared.kind.MarkBy.{MarkBy}
use Rattle.task_mgmt.specs.declared.kind.MarkBy.TheVariants.{Abort, Reset}
use Rattle.unit_model.specs.Unit.{PlainUnit, after as stepped, parking, dealing}
use Rattle.device_model.specs.Parts.{Outcome, Slot, Hand}
use Rattle.device_model.specs.World.{PlainQueue, Seat, Opened, PlainWorld, change, owner, Everywhere, IsNewSeat, Opens}
use Rattle.device_model.specs.Transitions.{Transition}
use Rattle.device_model.specs.Changing.{bit, arriving, taking, slotted, broken_by, completing, directing, spending, with_hand, without_first, with_jobs, leaving, on_function}
use Rattle.device_model.specs.Event.Hard.{hard_code}
use Rattle.device_model.specs.After.{after}
use Rattle.device_model.specs.Happens.{MayHappen, Occurrence, Runs, transitions_of}
use Rattle.device_model.specs.Event.Enter.{Comes}
use Rattle.device_model.specs.Found.{handed_out}
use Rattle.device_model.specs.Places.{of_chain, of_job, of_function, at_unit, accepted_count, only, log_accepted, log_used}
use Rattle.device_model.specs.Lawful.{AreNumbered}
use Rattle.device_model.specs.Standing.{AreOwned, SlotOwns}
use Rattle.device_model.specs.Weights.{Weights, in_slot, in_hand, in_queue, in_seat, held, fetches, uses, directs, answers, enter_count, entered_count, counts_in, was_accepted}
use Rattle.device_model.specs.Inner.Weights.{takes, gives, enters, ends, leaves, living_count, IsFlowing, chains, tasks, slots, jobs, dones, tolds, Tallies}
use Rattle.device_model.proofs.Jobs.{sum_change}
use Rattle.device_model.proofs.Places.{moves, nothing_counts}
use Rattle.device_model.proofs.Owning.{owned}
use Rattle.device_model.proofs.Staying.{run_keeps}
use Rattle.device_model.proofs.Numbering.{new_numbered, transition_numbers}
use Rattle.device_model.proofs.Off.{off_put, off_taken, none_off, first_counts}

-- Queues

-- what one queue counts stays
pub same_sum : {X : Type 0} (f : X → ℕ) (g : X → X) (k : ℕ) (xs : List X) → ((x : X) → f (g x) ≡ f x)
    → sum_by f (change g k xs) ≡ sum_by f xs
same_sum f g k [] e = refl
same_sum f g zero (x ∷ xs) e =
    let a = e x in
    let b = sum_by-cons f x xs in
    let c = sum_by-cons f (g x) xs in
    omega (arith, a, b, c)
same_sum f g (suc k) (x ∷ xs) e =
    let a = same_sum f g k xs e in
    let b = sum_by-cons f x xs in
    let c = sum_by-cons f x (change g k xs) in
    omega (arith, a, b, c)

-- Units

-- a unit takes a step: its jobs are those that it hands out, and those that it keeps
steps : (p : Ticket → ℕ) (s : Step) (k : ℕ) (us : List PlainUnit) (u : PlainUnit) → slice_get us k ≡ Some u
    → sum_by (at_unit p) (change (stepped s) k us) + sum_by (of_job p) (handed_out u s) ≡ sum_by (at_unit p) us
steps p s k us u at =
    let gone = released s u.steps in
    let c = sum_change (at_unit p) (stepped s) k us u at in
    let b = sum_by-filter_both (is_job_of gone) (λ j. not (is_job_of gone j)) (λ j. refl) (of_job p) u.parked in
    omega (arith, c, b)

gives_none : (jobs : List PlainJob) → of_tasks [] jobs ≡ []
gives_none [] = refl
gives_none (j ∷ jobs) = gives_none jobs

-- a step that hands out nothing
stays : (p : Ticket → ℕ) (s : Step) (k : ℕ) (us : List PlainUnit) (u : PlainUnit) → slice_get us k ≡ Some u
    → released s u.steps ≡ [] → sum_by (at_unit p) (change (stepped s) k us) ≡ sum_by (at_unit p) us
stays p s k us u at e =
    let c = steps p s k us u at in
    let b = ap (λ l. sum_by (of_job p) (of_tasks l u.parked)) e in
    let z = ap (λ l. sum_by (of_job p) l) (gives_none u.parked) in
    omega (arith, c, b, z)

parks : (p : Ticket → ℕ) (x : PlainJob) (k : ℕ) (us : List PlainUnit) (u : PlainUnit) → slice_get us k ≡ Some u
    → sum_by (at_unit p) (change (parking x) k us) ≡ sum_by (at_unit p) us + p x.chain.ticket
parks p x k us u at =
    let c = sum_change (at_unit p) (parking x) k us u at in
    let b = sum_by_push (of_job p) u.parked x in
    omega (arith, c, b)

-- Seats

abbrev seat : Hand → List PlainJob → Seat
seat hand out = record { hand = hand; out = out }

-- a seat gets jobs
gets : (f : Weights) (k : ℕ) (seats : List Seat) (s : Seat) (jobs : List PlainJob) → slice_get seats k ≡ Some s
    → sum_by (in_seat f) (change (with_jobs jobs) k seats) ≡ sum_by (in_seat f) seats + sum_by (of_job f.kept) jobs
gets f k seats s jobs at =
    let c = sum_change (in_seat f) (with_jobs jobs) k seats s at in
    let a = sum_by-append (of_job f.kept) s.out jobs in
    omega (arith, c, a)

-- a seat's hand changes
turns : (f : Weights) (k : ℕ) (seats : List Seat) (old new : Hand) (out : List PlainJob)
    → slice_get seats k ≡ Some (seat old out)
    → sum_by (in_seat f) (change (with_hand new) k seats) + in_hand f old ≡ sum_by (in_seat f) seats + in_hand f new
turns f k seats old new out at =
    let c = sum_change (in_seat f) (with_hand new) k seats (seat old out) at in
    omega (arith, c)

-- a free seat's first job goes
goes : (f : Weights) (k : ℕ) (seats : List Seat) (new : Hand) (x : PlainJob) (rest : List PlainJob)
    → slice_get seats k ≡ Some (seat Hand.Empty (x ∷ rest))
    → sum_by (in_seat f) (change (without_first new) k seats) + f.kept x.chain.ticket
    ≡ sum_by (in_seat f) seats + in_hand f new
goes f k seats new x rest at =
    let c = sum_change (in_seat f) (without_first new) k seats (seat Hand.Empty (x ∷ rest)) at in
    let a = sum_by-cons (of_job f.kept) x rest in
    omega (arith, c, a)

-- a seat's task leaves
frees : (f : Weights) (k : ℕ) (seats : List Seat) (old : Hand) (out jobs : List PlainJob)
    → slice_get seats k ≡ Some (seat old out)
    → sum_by (in_seat f) (change (leaving jobs) k seats) + in_hand f old
    ≡ sum_by (in_seat f) seats + sum_by (of_job f.kept) jobs
frees f k seats old out jobs at =
    let c = sum_change (in_seat f) (leaving jobs) k seats (seat old out) at in
    let a = sum_by-append (of_job f.kept) out jobs in
    omega (arith, c, a)

-- a function goes on
goes_on : (p : Ticket → ℕ) (g : PlainFunction → PlainFunction) (o : Option Opened)
    → of_function p (on_function g o) ≡ of_function p o
goes_on p g None = refl
goes_on p g (Some o) = refl

abbrev pub Flows : Weights → PlainWorld → Transition → Type 0
Flows f w d = held f (after d w) + gives f d ≡ held f w + takes f d

-- a request that arrived goes on from its slot
lets_go : (f : Weights) (s : Slot) (k : ℕ) (qs : List PlainQueue) (q : PlainQueue) (old : Slot)
    → slice_get qs k ≡ Some q → q.slot ≡ old
    → sum_by (in_queue f) (change (slotted s) k qs) + in_slot f old ≡ sum_by (in_queue f) qs + in_slot f s
lets_go f s k qs q old at e =
    let c = sum_change (in_queue f) (slotted s) k qs q at in
    let b = ap (in_slot f) e in
    omega (arith, c, b)

pub held_transition : (f : Weights) (w : PlainWorld) (d : Transition) → MayHappen d w → Flows f w d
held_transition f w (Transition.Arrive g x) h =
    let n = g.chain.ticket.queue in
    let q = sum_change (in_queue f) (arriving g.chain (Slot.Arrived x)) n w.queues h.finds.queue h.finds.there in
    let e = ap (in_slot f) h.finds.empty in
    let c = ap (of_chain f.arrived) h.chain in
    omega (arith, q, e, c)
held_transition f w (Transition.Refuse g a) h =
    let n = g.chain.ticket.queue in
    let s = Slot.Direct g.chain (Outcome.Decided a) in
    let q = sum_change (in_queue f) (arriving g.chain s) n w.queues h.finds.queue h.finds.there in
    let e = ap (in_slot f) h.finds.empty in
    omega (arith, q, e)
held_transition f w (Transition.Open g function) h =
    let q = same_sum (in_queue f) (taking g.chain) g.chain.ticket.queue w.queues (λ x. refl) in
    let e = ap (of_function f.opened) h.closed in
    omega (arith, q, e)
held_transition f w (Transition.Hold g) h =
    let q = same_sum (in_queue f) (taking g.chain) g.chain.ticket.queue w.queues (λ x. refl) in
    let p = sum_by_push (of_chain f.port) w.buffers g.chain in
    omega (arith, q, p)
held_transition f w (Transition.UseBuffer g xs) h =
    let s = spending xs.seen g.chain in
    let q = same_sum (in_queue f) s g.chain.ticket.queue w.queues (λ x. refl) in
    omega (arith, q)
held_transition f w (Transition.Break k n) h =
    let q = same_sum (in_queue f) (broken_by n) k w.queues (λ x. refl) in
    omega (arith, q)
held_transition f w (Transition.Run x) h =
    let c = h.comes in
    let q = lets_go f Slot.Empty x.chain.ticket.queue w.queues c.queue (Slot.Arrived x) c.there c.arrived in
    let u = stays f.kept (Step.Enter x.entry) x.unit w.units c.unit c.unit_there refl in
    let s = gets f (owner w.workers x.chain.ticket.queue) w.seats c.seat (x ∷ []) c.seat_there in
    omega (arith, q, u, s)
held_transition f w (Transition.Park x) h =
    let c = h.comes in
    let q = lets_go f Slot.Empty x.chain.ticket.queue w.queues c.queue (Slot.Arrived x) c.there c.arrived in
    let u = parks f.kept x x.unit w.units c.unit c.unit_there in
    omega (arith, q, u)
held_transition f w (Transition.EnterFull x) h =
    let c = h.comes in
    let new = Slot.Direct x.chain (Outcome.Ended Ending.Full) in
    let q = lets_go f new x.chain.ticket.queue w.queues c.queue (Slot.Arrived x) c.there c.arrived in
    let u = stays f.kept (Step.Full x.entry.ticket) x.unit w.units c.unit c.unit_there refl in
    omega (arith, q, u)
held_transition f w (Transition.EnterBusy x) h =
    let c = h.comes in
    let new = Slot.Direct x.chain (Outcome.Ended Ending.Busy) in
    let q = lets_go f new x.chain.ticket.queue w.queues c.queue (Slot.Arrived x) c.there c.arrived in
    omega (arith, q)
held_transition f w (Transition.EnterStale x) h =
    let c = h.comes in
    let new = Slot.Direct x.chain (Outcome.Ended Ending.Lost) in
    let q = lets_go f new x.chain.ticket.queue w.queues c.queue (Slot.Arrived x) c.there c.arrived in
    omega (arith, q)
held_transition f w (Transition.Direct c o xs) h =
    let q = sum_change (in_queue f) (directing xs.seen c) c.ticket.queue w.queues h.queue h.there in
    let e = ap (in_slot f) h.ready in
    omega (arith, q, e)
held_transition f w (Transition.Put k x) h =
    let s = goes f k w.seats Hand.Empty x h.rest h.seat in
    let p = off_put (of_job f.off) k w.handed_off h.off x h.there in
    omega (arith, s, p)
held_transition f w (Transition.Keep k x) h = let s = goes f k w.seats (Hand.Taken x) x h.rest h.seat in omega (arith, s)
held_transition f w (Transition.Take k from x) h =
    let s = turns f k w.seats Hand.Empty (Hand.Taken x) [] h.seat in
    let a = off_taken (of_job f.off) from w.handed_off x h.rest h.handed_off in
    omega (arith, s, a)
held_transition f w (Transition.Commit k x r) h =
    let new = Hand.Done x (Outcome.Ended (Ending.Replied r)) in
    let s = turns f k w.seats (Hand.Taken x) new h.holds.out h.holds.seat in
    let u = stays f.kept (Step.Commit x.entry.ticket r) x.unit w.units h.holds.unit h.holds.there refl in
    omega (arith, s, u)
held_transition f w (Transition.CommitBusy k x) h =
    let new = Hand.Done x (Outcome.Ended Ending.Busy) in
    let s = turns f k w.seats (Hand.Taken x) new h.holds.out h.holds.seat in
    let u = stays f.kept (Step.Busy x.entry.ticket) x.unit w.units h.holds.unit h.holds.there refl in
    omega (arith, s, u)
held_transition f w (Transition.CommitAborted k x why) h =
    let new = Hand.Done x (Outcome.Ended (Ending.Aborted why)) in
    let s = turns f k w.seats (Hand.Taken x) new h.holds.out h.holds.seat in
    omega (arith, s)
held_transition f w (Transition.CommitUnknown k x) h =
    let new = Hand.Done x (Outcome.Ended Ending.Lost) in
    let s = turns f k w.seats (Hand.Taken x) new h.holds.out h.holds.seat in
    omega (arith, s)
held_transition f w (Transition.Defer k x) h =
    let s = turns f k w.seats (Hand.Taken x) Hand.Empty h.holds.out h.holds.seat in
    let a = sum_by_push (of_job f.aside) w.aside x in
    omega (arith, s, a)
held_transition f w (Transition.Withhold k x r) h =
    let s = turns f k w.seats (Hand.Taken x) Hand.Empty h.holds.out h.holds.seat in
    let a = sum_by_push (of_job f.aside) w.aside x in
    let u = stays f.kept (Step.Commit x.entry.ticket r) x.unit w.units h.holds.unit h.holds.there refl in
    omega (arith, s, a, u)
held_transition f w (Transition.Conclude k x r) h =
    let new = Hand.Done x (Outcome.Ended (Ending.Replied r)) in
    let s = turns f k w.seats (Hand.Taken x) new h.holds.out h.holds.seat in
    omega (arith, s)
held_transition f w Transition.Wake h =
    let a = sum_by-append (of_job f.aside) w.woken w.aside in
    omega (arith, a)
held_transition f w (Transition.Resume k x) h =
    let s = turns f k w.seats Hand.Empty (Hand.Taken x) h.free.0 h.free.1 in
    let a = first_counts (of_job f.aside) w.woken x h.rest h.first in
    omega (arith, s, a)
held_transition f w (Transition.Answer k x o xs) h =
    let s = turns f k w.seats (Hand.Done x o) (Hand.Answered x.unit x.chain.ticket) h.out h.seat in
    let g = completing xs.seen x.chain in
    let q = same_sum (in_queue f) g x.chain.ticket.queue w.queues (λ z. refl) in
    omega (arith, s, q)
held_transition f w (Transition.Leave k unit_index t jobs) h =
    let s = frees f k w.seats (Hand.Answered unit_index t) h.holds.out jobs h.holds.seat in
    let u = steps f.kept (Step.Leave t) unit_index w.units h.holds.unit h.holds.there in
    let j = ap (λ l. sum_by (of_job f.kept) l) h.enables in
    omega (arith, s, u, j)
held_transition f w (Transition.Mark t p m jobs) h =
    let s = gets f 0 w.seats h.seat jobs h.seat_there in
    let u = steps f.kept (step_by m) p.unit w.units h.marking.unit h.marking.unit_there in
    let j = ap (λ l. sum_by (of_job f.kept) l) h.releases in
    let g = goes_on f.opened (marking p) w.function in
    let a = sum_by-append (of_job f.aside) w.woken w.aside in
    omega (arith, s, u, j, g, a)
held_transition f w (Transition.Ask t unit_index rule b) h = let g = goes_on f.opened (asking b) w.function in omega (arith, g)
held_transition f w (Transition.MarkRefused t) h = let g = goes_on f.opened failing w.function in omega (arith, g)
held_transition f w (Transition.Check t p) h = let g = goes_on f.opened checking w.function in omega (arith, g)
held_transition f w (Transition.Respond c r xs) h =
    let q = same_sum (in_queue f) (completing xs.seen c) c.ticket.queue w.queues (λ z. refl) in
    let g = ap (of_function f.opened) h.waiting.there in
    let e = ap (of_chain f.opened) h.chain in
    omega (arith, q, g, e)
held_transition f w (Transition.Hard p jobs) h =
    let s = gets f w.workers w.seats h.seat jobs h.seat_there in
    let u = steps f.kept (Step.Reset hard_code) p.unit w.units h.unit h.there in
    let j = ap (λ l. sum_by (of_job f.kept) l) h.releases in
    let a = sum_by-append (of_job f.aside) w.woken w.aside in
    omega (arith, s, u, j, a)
held_transition f w (Transition.Resize unit_index blocks) h =
    let u = stays f.kept (Step.Resize blocks) unit_index w.units h.unit h.there refl in
    omega (arith, u)
held_transition f w (Transition.Deal unit_index x) h =
    let u = same_sum (at_unit f.kept) (dealing x) unit_index w.units (λ v. refl) in
    omega (arith, u)
held_transition f w (Transition.Give e c xs) h =
    let q = same_sum (in_queue f) (completing xs.seen c) c.ticket.queue w.queues (λ z. refl) in
    let a = ap (λ l. sum_by (of_chain f.port) l) h.held in
    let b = ap (λ l. sum_by (of_chain f.port) (drop 1 l)) h.held in
    let n = sum_by-cons (of_chain f.port) c h.more in
    omega (arith, q, a, b, n)
held_transition f w d h = omega (arith)

-- Histories

-- a request that arrived counts by its chain's ticket as it does by its own
own_name : (p : Ticket → ℕ) (w : PlainWorld) (x : PlainJob) → AreOwned w → (h : Comes w x)
    → p x.entry.ticket ≡ p x.chain.ticket
own_name p w x a h =
    let n = x.chain.ticket.queue in
    let is : SlotOwns w n (Slot.Arrived x) = subst (λ s. SlotOwns w n s) h.arrived (a.slots n h.queue h.there) in
    ap p is.1.ticket

-- what marks is no Enter and no Leave
enters_none : (p : Ticket → ℕ) (m : MarkBy) (u : PlainUnit)
    → entered_count p (stepped (step_by m) u) ≡ entered_count p u
enters_none p (Abort rule) u = refl
enters_none p (Reset c) u = refl

living_same : (p : Ticket → ℕ) (m : MarkBy) (u : PlainUnit)
    → living_count p (stepped (step_by m) u) ≡ living_count p u
living_same p (Abort rule) u = refl
living_same p (Reset c) u = refl

entered_transition : (p : Ticket → ℕ) (d : Transition) (w : PlainWorld) → AreOwned w → MayHappen d w
    → sum_by (entered_count p) (after d w).units ≡ sum_by (entered_count p) w.units + enters p d
entered_transition p (Transition.Run x) w a h =
    let c = h.comes in
    let u = sum_change (entered_count p) (stepped (Step.Enter x.entry)) x.unit w.units c.unit c.unit_there in
    let n = own_name p w x a c in
    omega (arith, u, n)
entered_transition p (Transition.Park x) w a h =
    let c = h.comes in
    let u = sum_change (entered_count p) (parking x) x.unit w.units c.unit c.unit_there in
    let n = own_name p w x a c in
    omega (arith, u, n)
entered_transition p (Transition.EnterFull x) w a h =
    let u = same_sum (entered_count p) (stepped (Step.Full x.entry.ticket)) x.unit w.units (λ v. refl) in
    omega (arith, u)
entered_transition p (Transition.Commit k x r) w a h =
    let u = same_sum (entered_count p) (stepped (Step.Commit x.entry.ticket r)) x.unit w.units (λ v. refl) in
    omega (arith, u)
entered_transition p (Transition.Withhold k x r) w a h =
    let u = same_sum (entered_count p) (stepped (Step.Commit x.entry.ticket r)) x.unit w.units (λ v. refl) in
    omega (arith, u)
entered_transition p (Transition.CommitBusy k x) w a h =
    let u = same_sum (entered_count p) (stepped (Step.Busy x.entry.ticket)) x.unit w.units (λ v. refl) in
    omega (arith, u)
entered_transition p (Transition.Leave k unit_index t jobs) w a h =
    let u = same_sum (entered_count p) (stepped (Step.Leave t)) unit_index w.units (λ v. refl) in
    omega (arith, u)
entered_transition p (Transition.Mark t i m jobs) w a h =
    let u = same_sum (entered_count p) (stepped (step_by m)) i.unit w.units (λ v. enters_none p m v) in
    omega (arith, u)
entered_transition p (Transition.Hard i jobs) w a h =
    let u = same_sum (entered_count p) (stepped (Step.Reset hard_code)) i.unit w.units (λ v. refl) in
    omega (arith, u)
entered_transition p (Transition.Resize unit_index blocks) w a h =
    let u = same_sum (entered_count p) (stepped (Step.Resize blocks)) unit_index w.units (λ v. refl) in
    omega (arith, u)
entered_transition p (Transition.Deal unit_index x) w a h =
    let u = same_sum (entered_count p) (dealing x) unit_index w.units (λ v. refl) in
    omega (arith, u)
entered_transition p d w a h = omega (arith)

alive_transition : (p : Ticket → ℕ) (d : Transition) (w : PlainWorld) → AreOwned w → MayHappen d w
    → sum_by (living_count p) (after d w).units + leaves p d ≡ sum_by (living_count p) w.units + enters p d
alive_transition p (Transition.Run x) w a h =
    let c = h.comes in
    let u = sum_change (living_count p) (stepped (Step.Enter x.entry)) x.unit w.units c.unit c.unit_there in
    let e = alive_enter p x.entry c.unit.steps in
    let n = own_name p w x a c in
    omega (arith, u, e, n)
alive_transition p (Transition.Park x) w a h =
    let c = h.comes in
    let u = sum_change (living_count p) (parking x) x.unit w.units c.unit c.unit_there in
    let e = alive_enter p x.entry c.unit.steps in
    let n = own_name p w x a c in
    omega (arith, u, e, n)
alive_transition p (Transition.EnterFull x) w a h =
    let u = same_sum (living_count p) (stepped (Step.Full x.entry.ticket)) x.unit w.units (λ v. refl) in
    omega (arith, u)
alive_transition p (Transition.Commit k x r) w a h =
    let u = same_sum (living_count p) (stepped (Step.Commit x.entry.ticket r)) x.unit w.units (λ v. refl) in
    omega (arith, u)
alive_transition p (Transition.Withhold k x r) w a h =
    let u = same_sum (living_count p) (stepped (Step.Commit x.entry.ticket r)) x.unit w.units (λ v. refl) in
    omega (arith, u)
alive_transition p (Transition.CommitBusy k x) w a h =
    let u = same_sum (living_count p) (stepped (Step.Busy x.entry.ticket)) x.unit w.units (λ v. refl) in
    omega (arith, u)
alive_transition p (Transition.Leave k unit_index t jobs) w a h =
    let u = sum_change (living_count p) (stepped (Step.Leave t)) unit_index w.units h.holds.unit h.holds.there in
    let l = alive_leave p t h.may.0 h.holds.unit.steps h.may.1 in
    omega (arith, u, l)
alive_transition p (Transition.Mark t i m jobs) w a h =
    let u = same_sum (living_count p) (stepped (step_by m)) i.unit w.units (λ v. living_same p m v) in
    omega (arith, u)
alive_transition p (Transition.Hard i jobs) w a h =
    let u = same_sum (living_count p) (stepped (Step.Reset hard_code)) i.unit w.units (λ v. refl) in
    omega (arith, u)
alive_transition p (Transition.Resize unit_index blocks) w a h =
    let u = same_sum (living_count p) (stepped (Step.Resize blocks)) unit_index w.units (λ v. refl) in
    omega (arith, u)
alive_transition p (Transition.Deal unit_index x) w a h =
    let u = same_sum (living_count p) (dealing x) unit_index w.units (λ v. refl) in
    omega (arith, u)
alive_transition p d w a h = omega (arith)

-- A ticket that was accepted

abbrev ticket : ℕ → ℕ → Ticket
ticket i n = record { queue = i; number = n }

counts_more : (t : Ticket) (i n : ℕ)
    → sum_by (only t) (tickets i (suc n)) ≡ sum_by (only t) (tickets i n) + only t (ticket i n)
unfolding tickets
counts_more t i n = sum_by_push (only t) (tickets i n) (ticket i n)

none_yet : (t : Ticket) (i : ℕ) → sum_by (only t) (tickets i zero) ≡ 0
unfolding tickets
none_yet t i = refl

-- of another queue
not_here : (t : Ticket) (i n : ℕ) → eqb t.queue i ≡ false → sum_by (only t) (tickets i n) ≡ 0
not_here t i zero e = none_yet t i
not_here t i (suc n) e =
    let a = not_here t i n e in
    let b = counts_more t i n in
    let c = ap (λ z. bit (z && eqb t.number n)) e in
    omega (arith, a, b, c)

next : (m n : ℕ) → bit (nat_lt m (suc n)) ≡ bit (nat_lt m n) + bit (eqb m n)
next m n = grind (arith, nat_tests)

never_below : (m : ℕ) → bit (nat_lt m 0) ≡ 0
never_below m = grind (arith, nat_tests)

-- of this one
so_many : (t : Ticket) (i n : ℕ) → eqb t.queue i ≡ true → sum_by (only t) (tickets i n) ≡ bit (nat_lt t.number n)
so_many t i zero e = none_yet t i ∙ sym (never_below t.number)
so_many t i (suc n) e =
    let a = so_many t i n e in
    let b = counts_more t i n in
    let c = ap (λ z. bit (z && eqb t.number n)) e in
    let d = next t.number n in
    omega (arith, a, b, c, d)

-- what one item counts, if it is there
abbrev counted : {X : Type 0} → (X → ℕ) → Option X → ℕ
counted f None = 0
counted f (Some x) = f x

at_one : {X : Type 0} (f g : X → ℕ) (k : ℕ) (xs : List X)
    → Everywhere (λ i x. (eqb k i ≡ false → f x ≡ 0) × (eqb k i ≡ true → f x ≡ g x)) xs
    → sum_by f xs ≡ counted g (slice_get xs k)
at_one f g k [] h = refl
at_one f g zero (x ∷ xs) h =
    let a = (h 0 x refl).1 refl in
    let b = nothing_counts f xs (λ i y at. (h (suc i) y at).0 (eqb-zero-suc i)) in
    let c = sum_by-cons f x xs in
    omega (arith, a, b, c)
at_one f g (suc k) (x ∷ xs) h =
    let a = (h 0 x refl).0 (eqb-suc-zero k) in
    let b = at_one f g k xs (λ i y at. (
      λ e. (h (suc i) y at).0 (eqb-suc-suc k i ∙ e),
      λ e. (h (suc i) y at).1 (eqb-suc-suc k i ∙ e),
    )) in
    let c = sum_by-cons f x xs in
    omega (arith, a, b, c)

abbrev so_far : Ticket → PlainQueue → ℕ
so_far t q = bit (nat_lt t.number (length q.ring.log.accepted))

as_counted : (t : Ticket) (o : Option PlainQueue) → counted (so_far t) o ≡ counts_in t o
as_counted t None = refl
as_counted t (Some q) = refl

accepted_was : (t : Ticket) (w : PlainWorld) → AreNumbered w → accepted_count (only t) w ≡ was_accepted t w
accepted_was t w h =
    at_one (log_accepted (only t)) (so_far t) t.queue w.queues (λ i q at.
    let n = length q.ring.log.accepted in
    let is = ap (λ l. sum_by (only t) l) (h i q at).accepted in
    (λ e. is ∙ not_here t i n e, λ e. is ∙ so_many t i n e))
    ∙ as_counted t (slice_get w.queues t.queue)

-- A run

flows_transition : (d : Transition) (ds : List Transition) (w : PlainWorld) → AreOwned w → AreNumbered (after d w) → MayHappen d w
    → IsFlowing ds w → IsFlowing (d ∷ ds) (after d w)
flows_transition d ds w own numbered h s =
    let log : (p : Ticket → ℕ) → accepted_count p (after d w) ≡ sum_by (fetches p) (d ∷ ds) = λ p.
    let a = (moves p d w h).accepted in
    let b = s.accepted p in
    let c = sum_by-cons (fetches p) d ds in
    omega (arith, a, b, c) in
    record {
      held = λ f.
          let a = held_transition f w d h in
          let b = s.held f in
          let c = sum_by-cons (gives f) d ds in
          let e = sum_by-cons (takes f) d ds in
          omega (arith, a, b, c, e);
      accepted = log;
      used = λ p.
          let a = (moves p d w h).used in
          let b = s.used p in
          let c = sum_by-cons (uses p) d ds in
          omega (arith, a, b, c);
      entered = λ p.
          let a = entered_transition p d w own h in
          let b = s.entered p in
          let c = sum_by-cons (enters p) d ds in
          omega (arith, a, b, c);
      alive = λ p.
          let a = alive_transition p d w own h in
          let b = s.alive p in
          let c = sum_by-cons (leaves p) d ds in
          let e = sum_by-cons (enters p) d ds in
          omega (arith, a, b, c, e);
      once = λ t. sym (log (only t)) ∙ accepted_was t (after d w) numbered;
    }

-- a seat that is new
idle : (f : Weights) (s : Seat) → IsNewSeat s → in_seat f s ≡ 0
idle f s n =
    let a = ap (in_hand f) n.hand in
    let b = ap (λ l. sum_by (of_job f.kept) l) n.out in
    omega (arith, a, b)

new_flows : (w : PlainWorld) → Opens w → IsFlowing [] w
new_flows w o =
    let log : (p : Ticket → ℕ) → accepted_count p w ≡ 0 = λ p.
    nothing_counts (log_accepted p) w.queues (λ i q at. ap (λ l. sum_by p l) (o.queues i q at).accepted) in
    record {
      held = λ f.
          let a = nothing_counts (in_queue f) w.queues (λ i q at. ap (in_slot f) (o.queues i q at).slot) in
          let b = nothing_counts (at_unit f.kept) w.units (λ i u at.
          ap (λ l. sum_by (of_job f.kept) l) (o.units i u at).parked) in
          let c = nothing_counts (in_seat f) w.seats (λ i s at. idle f s (o.seats i s at)) in
          let d = ap (λ l. sum_by (of_job f.off) l) (none_off w.handed_off o.handed_off) in
          let x = ap (λ l. sum_by (of_job f.aside) l) o.aside in
          let y = ap (λ l. sum_by (of_job f.aside) l) o.woken in
          let e = ap (of_function f.opened) o.function in
          let g = ap (λ l. sum_by (of_chain f.port) l) o.buffers in
          omega (arith, a, b, c, d, e, g, x, y);
      accepted = log;
      used = λ p. nothing_counts (log_used p) w.queues (λ i q at. ap (λ l. sum_by p l) (o.queues i q at).used);
      entered = λ p. nothing_counts (entered_count p) w.units (λ i u at. ap (enter_count p) (o.units i u at).steps);
      alive = λ p.
          let a = nothing_counts (living_count p) w.units (λ i u at. ap (alive_count p) (o.units i u at).steps) in
          omega (arith, a);
      once = λ t. sym (log (only t)) ∙ accepted_was t w (new_numbered w o);
    }

-- the transitions of a run flow
pub run_flows : (old : PlainWorld) (trace : List Occurrence) (w : PlainWorld) (o : Opens old) (r : Runs old trace w)
    → IsFlowing (transitions_of old trace w r) w
run_flows old [] w o r = subst (λ v. IsFlowing [] v) (sym r) (new_flows old o)
run_flows old (e ∷ past) w o r =
    let d = r.2.transition in
    let ds = transitions_of old past r.0 r.1 in
    let numbered = run_keeps AreNumbered transition_numbers old past r.0 (new_numbered old o) r.1 in
    subst (λ v. IsFlowing (d ∷ ds) v) (sym r.2.is)
    (flows_transition d ds r.0 (owned old past r.0 o r.1) (transition_numbers d r.0 r.2.may numbered) r.2.may
    (run_flows old past r.0 o r.1))

-- Tallies

abbrev none_of : Transition → ℕ
none_of d = 0

none_at_all : (ds : List Transition) → sum_by none_of ds ≡ 0
none_at_all [] = refl
none_at_all (d ∷ ds) =
    let a = none_at_all ds in
    let b = sum_by-cons none_of d ds in
    omega (arith, a, b)

-- what balances for each transition does for all
balance : (a b c x y z : Transition → ℕ) → ((d : Transition) → a d + b d + c d ≡ x d + y d + z d) → (ds : List Transition)
    → sum_by a ds + sum_by b ds + sum_by c ds ≡ sum_by x ds + sum_by y ds + sum_by z ds
balance a b c x y z e [] = refl
balance a b c x y z e (d ∷ ds) =
    let h = balance a b c x y z e ds in
    let g = e d in
    let i = sum_by-cons a d ds in
    let j = sum_by-cons b d ds in
    let k = sum_by-cons c d ds in
    let l = sum_by-cons x d ds in
    let m = sum_by-cons y d ds in
    let n = sum_by-cons z d ds in
    omega (arith, h, g, i, j, k, l, m, n)

slots_one : (p : Ticket → ℕ) (d : Transition)
    → gives (slots p) d + fetches p d + answers p d ≡ takes (slots p) d + enters p d + uses p d
slots_one p (Transition.Poke x) = omega (arith)
slots_one p d = omega (arith)

jobs_one : (p : Ticket → ℕ) (d : Transition)
    → gives (jobs p) d + enters p d + 0 ≡ takes (jobs p) d + ends p d + 0
jobs_one p (Transition.Poke x) = omega (arith)
jobs_one p d = omega (arith)

dones_one : (p : Ticket → ℕ) (d : Transition)
    → gives (dones p) d + ends p d + 0 ≡ takes (dones p) d + answers p d + 0
dones_one p (Transition.Poke x) = omega (arith)
dones_one p d = omega (arith)

tolds_one : (p : Ticket → ℕ) (d : Transition)
    → gives (tolds p) d + answers p d + 0 ≡ takes (tolds p) d + leaves p d + 0
tolds_one p (Transition.Poke x) = omega (arith)
tolds_one p d = omega (arith)

chains_one : (p : Ticket → ℕ) (d : Transition)
    → gives (chains p) d + fetches p d + 0 ≡ takes (chains p) d + uses p d + 0
chains_one p (Transition.Poke x) = omega (arith)
chains_one p d = omega (arith)

tasks_one : (p : Ticket → ℕ) (d : Transition)
    → gives (tasks p) d + enters p d + 0 ≡ takes (tasks p) d + leaves p d + 0
tasks_one p (Transition.Poke x) = omega (arith)
tasks_one p d = omega (arith)

-- the uses that are of no answer from a slot or a hand
abbrev other_uses : (Ticket → ℕ) → Transition → ℕ
other_uses p (Transition.UseBuffer g xs) = p g.chain.ticket
other_uses p (Transition.Respond c r xs) = p c.ticket
other_uses p (Transition.Give e c xs) = p c.ticket
other_uses p d = 0

uses_one : (p : Ticket → ℕ) (d : Transition) → directs p d + answers p d + other_uses p d ≡ uses p d + 0 + 0
uses_one p (Transition.Poke x) = omega (arith)
uses_one p d = omega (arith)

pub tallies : (p : Ticket → ℕ) (ds : List Transition) (w : PlainWorld) → IsFlowing ds w → Tallies p ds w
tallies p ds w f =
    let z = none_at_all ds in
    record {
      slots =
          let a = f.held (slots p) in
          let b = balance (gives (slots p)) (fetches p) (answers p) (takes (slots p)) (enters p) (uses p)
          (slots_one p) ds in
          omega (arith, a, b);
      jobs =
          let a = f.held (jobs p) in
          let b = balance (gives (jobs p)) (enters p) none_of (takes (jobs p)) (ends p) none_of (jobs_one p) ds in
          omega (arith, a, b, z);
      dones =
          let a = f.held (dones p) in
          let b = balance (gives (dones p)) (ends p) none_of (takes (dones p)) (answers p) none_of (dones_one p) ds in
          omega (arith, a, b, z);
      tolds =
          let a = f.held (tolds p) in
          let b = balance (gives (tolds p)) (answers p) none_of (takes (tolds p)) (leaves p) none_of (tolds_one p) ds in
          omega (arith, a, b, z);
      chains =
          let a = f.held (chains p) in
          let b = balance (gives (chains p)) (fetches p) none_of (takes (chains p)) (uses p) none_of
          (chains_one p) ds in
          omega (arith, a, b, z);
      tasks =
          let a = f.held (tasks p) in
          let b = balance (gives (tasks p)) (enters p) none_of (takes (tasks p)) (leaves p) none_of (tasks_one p) ds in
          omega (arith, a, b, z);
      uses =
          let b = balance (directs p) (answers p) (other_uses p) (uses p) none_of none_of (uses_one p) ds in
          omega (arith, b, z);
    }

bit_few : (b : Bool) → bit b ≤ 1
bit_few true = omega (arith)
bit_few false = omega (arith)

counts_few : (t : Ticket) (o : Option PlainQueue) → counts_in t o ≤ 1
counts_few t None = omega (arith)
counts_few t (Some q) = bit_few (nat_lt t.number (length q.ring.log.accepted))

-- a ticket is fetched at most once
pub fetched_once : (t : Ticket) (ds : List Transition) (w : PlainWorld) → IsFlowing ds w → sum_by (fetches (only t)) ds ≤ 1
fetched_once t ds w f =
    let a = f.once t in
    let b = counts_few t (slice_get w.queues t.queue) in
    omega (arith, a, b)
