-- A job goes by its chain's ticket wherever it stands, and a unit holds jobs for itself alone.
use Rattle.std.proofs.Common.{◌≡◌, ℕ, Bool, true, false, not, cond, List, [], ◌∷◌, ◌++◌, filter, Some, refl, sym, ◌∙◌, ap, subst, arith}
use Rattle.std.specs.Prelude.{slice_get, ⊤}
use Rattle.std.specs.List.{AllByRecursion, sum_by}
use Rattle.std.proofs.lemmas.List.Sums.{sum_by-cons}
use Rattle.unit_model.specs.Endings.{Ending}
use Rattle.unit_model.specs.Tasks.{same_ticket}
use Rattle.unit_model.specs.Steps.{Step}
use Rattle.unit_model.specs.Released.{released}
use Rattle.unit_model.proofs.Tickets.{eq-same, same-true}
use Rattle.unit_model.specs.Jobs.{PlainJob, is_job_of}
use Rattle.unit_model.specs.Unit.{PlainUnit, after as stepped, parking, dealing}
use Rattle.task_mgmt.specs.Functions.{step_by}
use Rattle.device_model.specs.Parts.{Outcome, Slot, Hand}
use Rattle.device_model.specs.World.{PlainQueue, Seat, PlainWorld, Opens, IsNewSeat, change, Everywhere}
use Rattle.device_model.specs.Transitions.{Transition}
use Rattle.device_model.specs.Changing.{bit, arriving, taking, slotted, broken_by, completing, directing, spending}
use Rattle.device_model.specs.Event.Hard.{hard_code}
use Rattle.device_model.specs.After.{after}
use Rattle.device_model.specs.Happens.{MayHappen}
use Rattle.device_model.specs.Found.{handed_out}
use Rattle.device_model.specs.Laws.{in_hand, at_seat, jobs_out}
use Rattle.device_model.proofs.Jobs.{turns, kept}
use Rattle.device_model.proofs.Places.{nothing_counts}
use Rattle.device_model.proofs.Staying.{everywhere}
use Rattle.device_model.proofs.Sums.{counts_one}
use Rattle.device_model.proofs.Off.{none_off}

-- what holds of all holds of those that pass a test
pub all_filter : {X : Type 0} (P : X → Type 0) (q : X → Bool) (xs : List X) → AllByRecursion P xs
    → AllByRecursion P (filter q xs)
all_filter P q [] h = tt
all_filter P q (x ∷ xs) h =
    elim (q x) as (λ b. AllByRecursion P (cond b (x ∷ filter q xs) (filter q xs))) [
      | true ↦ (h.0, all_filter P q xs h.1)
      | false ↦ all_filter P q xs h.1
    ]

-- and of two lists in a row
pub all_push : {X : Type 0} (P : X → Type 0) (xs ys : List X) → AllByRecursion P xs → AllByRecursion P ys
    → AllByRecursion P (xs ++ ys)
all_push P [] ys h k = k
all_push P (x ∷ xs) ys h k = (h.0, all_push P xs ys h.1 k)

-- 1 for a job that doesn't go by its chain's ticket
abbrev misnamed : PlainJob → ℕ
misnamed x = bit (not (same_ticket x.entry.ticket x.chain.ticket))

is_named : (x : PlainJob) → x.entry.ticket ≡ x.chain.ticket → misnamed x ≡ 0
is_named x e = ap (λ b. bit (not b)) (eq-same x.entry.ticket x.chain.ticket e)

name_of : (x : PlainJob) → misnamed x ≡ 0 → x.entry.ticket ≡ x.chain.ticket
name_of x e =
    (elim (same_ticket x.entry.ticket x.chain.ticket) as (λ b. same_ticket x.entry.ticket x.chain.ticket ≡ b
    → bit (not b) ≡ 0 → x.entry.ticket ≡ x.chain.ticket) [
      | true ↦ λ k z. same-true x.entry.ticket x.chain.ticket k
      | false ↦ λ k z. absurd (omega (arith, z))
    ]) refl e

abbrev SlotIsNamed : Slot → Type 0
SlotIsNamed (Slot.Arrived x) = misnamed x ≡ 0
SlotIsNamed s = ⊤

-- the job is for the unit of this index
abbrev pub IsFor : ℕ → PlainJob → Type 0
IsFor unit_index x = (x.unit ≡ unit_index) × (misnamed x ≡ 0)

abbrev QueuesAreNamed : List PlainQueue → Type 0
QueuesAreNamed qs = Everywhere (λ i q. SlotIsNamed q.slot) qs

abbrev pub UnitsHoldOwn : List PlainUnit → Type 0
UnitsHoldOwn us = Everywhere (λ i u. AllByRecursion (IsFor i) u.parked) us

abbrev pub AreNamed : PlainWorld → Type 0
AreNamed w = QueuesAreNamed w.queues × UnitsHoldOwn w.units × (jobs_out misnamed w ≡ 0)

-- At the opening

no_job : (s : Seat) → IsNewSeat s → at_seat misnamed s ≡ 0
no_job s n =
    let a = ap (in_hand misnamed) n.hand in
    let b = ap (λ l. sum_by misnamed l) n.out in
    omega (arith, a, b)

pub new_named : (w : PlainWorld) → Opens w → AreNamed w
new_named w o =
    let a = nothing_counts (at_seat misnamed) w.seats (λ i s at. no_job s (o.seats i s at)) in
    let b = ap (λ l. sum_by misnamed l) (none_off w.handed_off o.handed_off) in
    let c = ap (λ l. sum_by misnamed l) o.aside in
    let d = ap (λ l. sum_by misnamed l) o.woken in (
      λ i q at. subst SlotIsNamed (sym (o.queues i q at).slot) tt,
      λ i u at. subst (λ l. AllByRecursion (IsFor i) l) (sym (o.units i u at).parked) tt,
      omega (arith, a, b, c, d),
    )

-- The queues

-- the slot of one queue is filled anew, or keeps what it has
refilled : (g : PlainQueue → PlainQueue) (k : ℕ) (qs : List PlainQueue) → ((q : PlainQueue) → SlotIsNamed (g q).slot)
    → QueuesAreNamed qs → QueuesAreNamed (change g k qs)
refilled g k qs f h = everywhere (λ i q. SlotIsNamed q.slot) g k qs (λ q at n. f q) h

left_so : (g : PlainQueue → PlainQueue) (k : ℕ) (qs : List PlainQueue)
    → ((q : PlainQueue) → SlotIsNamed q.slot → SlotIsNamed (g q).slot) → QueuesAreNamed qs
    → QueuesAreNamed (change g k qs)
left_so g k qs f h = everywhere (λ i q. SlotIsNamed q.slot) g k qs (λ q at n. f q n) h

queues_after : (d : Transition) (w : PlainWorld) → MayHappen d w → QueuesAreNamed w.queues → QueuesAreNamed (after d w).queues
queues_after (Transition.Arrive f x) w m h =
    let e = is_named x (m.ticket ∙ ap (λ c. c.ticket) (sym m.chain)) in
    refilled (arriving f.chain (Slot.Arrived x)) f.chain.ticket.queue w.queues (λ q. e) h
queues_after (Transition.Refuse f a) w m h =
    refilled (arriving f.chain (Slot.Direct f.chain (Outcome.Decided a))) f.chain.ticket.queue w.queues (λ q. tt) h
queues_after (Transition.Open f g) w m h = left_so (taking f.chain) f.chain.ticket.queue w.queues (λ q n. n) h
queues_after (Transition.Hold f) w m h = left_so (taking f.chain) f.chain.ticket.queue w.queues (λ q n. n) h
queues_after (Transition.UseBuffer f xs) w m h =
    left_so (spending xs.seen f.chain) f.chain.ticket.queue w.queues (λ q n. n) h
queues_after (Transition.Break k n) w m h = left_so (broken_by n) k w.queues (λ q n. n) h
queues_after (Transition.Run x) w m h = refilled (slotted Slot.Empty) x.chain.ticket.queue w.queues (λ q. tt) h
queues_after (Transition.Park x) w m h = refilled (slotted Slot.Empty) x.chain.ticket.queue w.queues (λ q. tt) h
queues_after (Transition.EnterFull x) w m h =
    let s = Slot.Direct x.chain (Outcome.Ended Ending.Full) in
    refilled (slotted s) x.chain.ticket.queue w.queues (λ q. tt) h
queues_after (Transition.EnterBusy x) w m h =
    let s = Slot.Direct x.chain (Outcome.Ended Ending.Busy) in
    refilled (slotted s) x.chain.ticket.queue w.queues (λ q. tt) h
queues_after (Transition.EnterStale x) w m h =
    let s = Slot.Direct x.chain (Outcome.Ended Ending.Lost) in
    refilled (slotted s) x.chain.ticket.queue w.queues (λ q. tt) h
queues_after (Transition.Direct c o xs) w m h =
    refilled (directing xs.seen c) c.ticket.queue w.queues (λ q. tt) h
queues_after (Transition.Answer k x o xs) w m h =
    left_so (completing xs.seen x.chain) x.chain.ticket.queue w.queues (λ q n. n) h
queues_after (Transition.Respond c r xs) w m h =
    left_so (completing xs.seen c) c.ticket.queue w.queues (λ q n. n) h
queues_after (Transition.Give e c xs) w m h =
    left_so (completing xs.seen c) c.ticket.queue w.queues (λ q n. n) h
queues_after d w m h = h

-- the job in a slot
in_slot : (s : Slot) (x : PlainJob) → s ≡ Slot.Arrived x → SlotIsNamed s → misnamed x ≡ 0
in_slot s x e h = subst SlotIsNamed e h

-- The units

-- a unit's step leaves some of its jobs
steps : (s : Step) (k : ℕ) (us : List PlainUnit) → UnitsHoldOwn us → UnitsHoldOwn (change (stepped s) k us)
steps s k us h =
    everywhere (λ i u. AllByRecursion (IsFor i) u.parked) (stepped s) k us
    (λ u at n. all_filter (IsFor k) (λ j. not (is_job_of (released s u.steps) j)) u.parked n) h

units_after : (d : Transition) (w : PlainWorld) → MayHappen d w → AreNamed w → UnitsHoldOwn (after d w).units
units_after (Transition.Run x) w m h = steps (Step.Enter x.entry) x.unit w.units h.1
units_after (Transition.Park x) w m h =
    let c = m.comes in
    let e = in_slot c.queue.slot x c.arrived (h.0 x.chain.ticket.queue c.queue c.there) in
    everywhere (λ i u. AllByRecursion (IsFor i) u.parked) (parking x) x.unit w.units
    (λ u at n. all_push (IsFor x.unit) u.parked (x ∷ []) n ((refl, e), tt)) h.1
units_after (Transition.EnterFull x) w m h = steps (Step.Full x.entry.ticket) x.unit w.units h.1
units_after (Transition.Commit k x r) w m h = steps (Step.Commit x.entry.ticket r) x.unit w.units h.1
units_after (Transition.Withhold k x r) w m h = steps (Step.Commit x.entry.ticket r) x.unit w.units h.1
units_after (Transition.CommitBusy k x) w m h = steps (Step.Busy x.entry.ticket) x.unit w.units h.1
units_after (Transition.Leave k unit_index t jobs) w m h = steps (Step.Leave t) unit_index w.units h.1
units_after (Transition.Mark t p s jobs) w m h = steps (step_by s) p.unit w.units h.1
units_after (Transition.Hard p jobs) w m h = steps (Step.Reset hard_code) p.unit w.units h.1
units_after (Transition.Resize unit_index blocks) w m h = steps (Step.Resize blocks) unit_index w.units h.1
units_after (Transition.Deal unit_index x) w m h =
    everywhere (λ i u. AllByRecursion (IsFor i) u.parked) (dealing x) unit_index w.units (λ u at n. n) h.1
units_after d w m h = h.1

-- The seats and the hand-off

-- the jobs that a unit's step hands out are for that unit
pub given_own : (s : Step) (k : ℕ) (us : List PlainUnit) (u : PlainUnit) → slice_get us k ≡ Some u → UnitsHoldOwn us
    → AllByRecursion (IsFor k) (handed_out u s)
given_own s k us u at h = all_filter (IsFor k) (is_job_of (released s u.steps)) u.parked (h k u at)

none_misnamed : (k : ℕ) (jobs : List PlainJob) → AllByRecursion (IsFor k) jobs → sum_by misnamed jobs ≡ 0
none_misnamed k [] h = refl
none_misnamed k (j ∷ jobs) h =
    let a = none_misnamed k jobs h.1 in
    let b = sum_by-cons misnamed j jobs in
    omega (arith, a, b, h.0.1)

given_named : (s : Step) (k : ℕ) (us : List PlainUnit) (u : PlainUnit) (jobs : List PlainJob) → slice_get us k ≡ Some u
    → jobs ≡ handed_out u s → UnitsHoldOwn us → sum_by misnamed jobs ≡ 0
given_named s k us u jobs at e h =
    ap (λ l. sum_by misnamed l) e ∙ none_misnamed k (handed_out u s) (given_own s k us u at h)

outs_after : (d : Transition) (w : PlainWorld) → MayHappen d w → AreNamed w → jobs_out misnamed (after d w) ≡ 0
outs_after (Transition.Run x) w m h =
    let c = m.comes in
    let e = in_slot c.queue.slot x c.arrived (h.0 x.chain.ticket.queue c.queue c.there) in
    let k = kept misnamed (Transition.Run x) w m in
    omega (arith, k, e, h.2)
outs_after (Transition.Put i x) w m h = let k = kept misnamed (Transition.Put i x) w m in omega (arith, k, h.2)
outs_after (Transition.Keep i x) w m h = let k = kept misnamed (Transition.Keep i x) w m in omega (arith, k, h.2)
outs_after (Transition.Take i from x) w m h = let k = kept misnamed (Transition.Take i from x) w m in omega (arith, k, h.2)
outs_after (Transition.Commit i x r) w m h = let k = kept misnamed (Transition.Commit i x r) w m in omega (arith, k, h.2)
outs_after (Transition.CommitBusy i x) w m h = let k = kept misnamed (Transition.CommitBusy i x) w m in omega (arith, k, h.2)
outs_after (Transition.CommitAborted i x why) w m h = let k = kept misnamed (Transition.CommitAborted i x why) w m in omega (arith, k, h.2)
outs_after (Transition.CommitUnknown i x) w m h =
    let new = Hand.Done x (Outcome.Ended Ending.Lost) in
    let t = turns misnamed i w.seats (Hand.Taken x) new m.holds.out m.holds.seat in
    omega (arith, t, h.2)
outs_after (Transition.Defer i x) w m h = let k = kept misnamed (Transition.Defer i x) w m in omega (arith, k, h.2)
outs_after (Transition.Withhold i x r) w m h = let k = kept misnamed (Transition.Withhold i x r) w m in omega (arith, k, h.2)
outs_after (Transition.Conclude i x r) w m h = let k = kept misnamed (Transition.Conclude i x r) w m in omega (arith, k, h.2)
outs_after Transition.Wake w m h = let k = kept misnamed Transition.Wake w m in omega (arith, k, h.2)
outs_after (Transition.Resume i x) w m h = let k = kept misnamed (Transition.Resume i x) w m in omega (arith, k, h.2)
outs_after (Transition.Answer i x o xs) w m h =
    let k = kept misnamed (Transition.Answer i x o xs) w m in
    omega (arith, k, h.2)
outs_after (Transition.Leave i unit_index t jobs) w m h =
    let k = kept misnamed (Transition.Leave i unit_index t jobs) w m in
    let z = given_named (Step.Leave t) unit_index w.units m.holds.unit jobs m.holds.there m.enables h.1 in
    omega (arith, k, z, h.2)
outs_after (Transition.Mark t p s jobs) w m h =
    let k = kept misnamed (Transition.Mark t p s jobs) w m in
    let z = given_named (step_by s) p.unit w.units m.marking.unit jobs m.marking.unit_there m.releases h.1 in
    omega (arith, k, z, h.2)
outs_after (Transition.Hard p jobs) w m h =
    let k = kept misnamed (Transition.Hard p jobs) w m in
    let z = given_named (Step.Reset hard_code) p.unit w.units m.unit jobs m.there m.releases h.1 in
    omega (arith, k, z, h.2)
outs_after d w m h = h.2

pub transition_names : (d : Transition) (w : PlainWorld) → MayHappen d w → AreNamed w → AreNamed (after d w)
transition_names d w m h = (queues_after d w m h.0, units_after d w m h, outs_after d w m h)

-- What a hand has goes by its chain's ticket

pub done_is_named : (k : ℕ) (x : PlainJob) (o : Outcome) (out : List PlainJob) (w : PlainWorld)
    → slice_get w.seats k ≡ Some (record { hand = Hand.Done x o; out = out }) → AreNamed w
    → x.chain.ticket ≡ x.entry.ticket
done_is_named k x o out w at h =
    let l = counts_one (at_seat misnamed) k w.seats (record { hand = Hand.Done x o; out = out }) at in
    sym (name_of x (omega (arith, l, h.2)))
