-- How long a device may settle.
use Rattle.std.proofs.Common.{◌≡◌, ℕ, Bool, ◌+◌, ◌*◌, ◌≤◌, List, [], ◌∷◌, length, Option, Some, None, refl, arith, zero, suc}
use Rattle.std.specs.List.{sum_by, AllByRecursion}
use Rattle.std.proofs.lemmas.List.Sums.{sum_by-cons}
use Rattle.ring_core.specs.declared.fault.RingFault.{RingFault}
use Rattle.ring_core.specs.declared.log.Ticket.{Ticket}
use Rattle.unit_model.specs.Jobs.{PlainJob}
use Rattle.unit_model.specs.Unit.{PlainUnit}
use Rattle.device_model.specs.Parts.{Slot, Hand}
use Rattle.device_model.specs.World.{PlainQueue, Seat, Opened, PlainWorld, Everywhere, all_off}
use Rattle.device_model.specs.Transitions.{Transition, event_of}
use Rattle.device_model.specs.Happens.{Happens, Occurrence, Reached, world_of}
use Rattle.device_model.specs.Laws.{in_hand as job_in_hand, at_seat}
use Rattle.device_model.specs.Places.{of_chain, of_job, of_slot, of_function, at_queue, at_unit, standing_count, accepted_count, used_count}
use Rattle.device_model.specs.Standing.{IsJob, SlotOwns, HandOwns, AreOwned}
use Rattle.device_model.specs.Weights.{in_slot, in_hand, in_queue, in_seat, held, fetches, nothing}
use Rattle.device_model.proofs.Turning.{may}
use Rattle.device_model.proofs.Places.{moves, nothing_counts, balanced}
use Rattle.device_model.proofs.Owning.{owned}
use Rattle.device_model.specs.Measure.{owed, price, price_at, visits, if_whole, whole, measure, pays, if_answered, answered_hand}
use Rattle.std.specs.Prelude.{⊤}
use Rattle.device_model.specs.Settling.{Settles, SettlesOf, visited, roused_by, IsShort}
use Rattle.device_model.specs.Waking.{IsOwn}
use Rattle.device_model.proofs.Choosing.{own_next, own_next_of}
use Rattle.device_model.proofs.Lowers.{lowers}

-- What is owed is at most the price of each chain, and 1 for an answered task

request_price : (q : ℕ) → 2 ≤ q → 7 ≤ price_at q
request_price zero h = absurd (omega (arith, h))
request_price (suc zero) h = absurd (omega (arith, h))
request_price (suc (suc q)) h = omega (arith)

some_price : (q : ℕ) → 1 ≤ price_at q
some_price zero = omega (arith)
some_price (suc zero) = omega (arith)
some_price (suc (suc q)) = omega (arith)

job_price : (w : PlainWorld) (x : PlainJob) → IsJob w x → 7 ≤ price x.chain.ticket
job_price w x j = request_price x.chain.ticket.queue j.request

-- what is at most two sums together, item by item
at_most : {X : Type 0} (f g h : X → ℕ) (xs : List X) → Everywhere (λ i x. f x ≤ g x + h x) xs
    → sum_by f xs ≤ sum_by g xs + sum_by h xs
at_most f g h [] e = omega (arith)
at_most f g h (x ∷ xs) e =
    let a = e 0 x refl in
    let b = at_most f g h xs (λ i y at. e (suc i) y at) in
    let c = sum_by-cons f x xs in
    let d = sum_by-cons g x xs in
    let k = sum_by-cons h x xs in
    omega (arith, a, b, c, d, k)

slot_owed : (w : PlainWorld) (i : ℕ) (s : Slot) → SlotOwns w i s → in_slot owed s ≤ of_slot price s
slot_owed w i Slot.Empty h = omega (arith)
slot_owed w i (Slot.Arrived x) h = let a = job_price w x h.1 in omega (arith, a)
slot_owed w i (Slot.Direct c o) h = some_price c.ticket.queue

hand_owed : (w : PlainWorld) (s : Hand) → HandOwns w s
    → in_hand owed s ≤ job_in_hand (of_job price) s + if_answered s
hand_owed w Hand.Empty h = omega (arith)
hand_owed w (Hand.Taken x) h = let a = job_price w x h in omega (arith, a)
hand_owed w (Hand.Done x o) h = let a = job_price w x h in omega (arith, a)
hand_owed w (Hand.Answered unit_index t) h = omega (arith)

jobs_owed : (w : PlainWorld) (n : ℕ) (xs : List PlainJob) → n ≤ 7 → AllByRecursion (IsJob w) xs
    → sum_by (of_job (λ t. n)) xs ≤ sum_by (of_job price) xs
jobs_owed w n [] le h = omega (arith)
jobs_owed w n (x ∷ xs) le h =
    let a = job_price w x h.0 in
    let b = jobs_owed w n xs le h.1 in
    let c = sum_by-cons (of_job (λ t. n)) x xs in
    let d = sum_by-cons (of_job price) x xs in
    omega (arith, a, b, c, d, le)

seat_owed : (w : PlainWorld) (s : Seat) → HandOwns w s.hand → AllByRecursion (IsJob w) s.out
    → in_seat owed s ≤ at_seat (of_job price) s + answered_hand s
seat_owed w s h k =
    let a = hand_owed w s.hand h in
    let b = jobs_owed w 5 s.out (omega (arith)) k in
    omega (arith, a, b)

function_owed : (o : Option Opened) → of_function (λ t. 1) o ≤ of_function price o
function_owed None = omega (arith)
function_owed (Some o) = some_price o.chain.ticket.queue

no_weights : {X : Type 0} (xs : List X) → sum_by (λ (x : X). 0) xs ≡ 0
no_weights xs = nothing_counts (λ x. 0) xs (λ i x at. refl)

held_owed : (w : PlainWorld) → AreOwned w → held owed w ≤ standing_count price w + sum_by answered_hand w.seats
held_owed w h =
    let zero_queue : PlainQueue → ℕ = λ q. 0 in
    let zero_unit : PlainUnit → ℕ = λ u. 0 in
    let a = at_most (in_queue owed) (at_queue price) zero_queue w.queues (λ i q at.
    let o = slot_owed w i q.slot (h.slots i q at) in
    omega (arith, o)) in
    let b = at_most (at_unit owed.kept) (at_unit price) zero_unit w.units (λ i u at.
    let o = jobs_owed w 5 u.parked (omega (arith)) (h.parked i u at) in
    omega (arith, o)) in
    let c = at_most (in_seat owed) (at_seat (of_job price)) answered_hand w.seats (λ k s at.
    let o = h.seats k s at in
    seat_owed w s o.0 o.1) in
    let d = jobs_owed w 4 (all_off w) (omega (arith)) h.handed_off in
    let x = jobs_owed w 2 w.aside (omega (arith)) h.aside in
    let v = jobs_owed w 2 w.woken (omega (arith)) h.woken in
    let e = function_owed w.function in
    let f = nothing_counts (of_chain nothing) w.buffers (λ i x at. refl) in
    let y = no_weights w.queues in
    let z = no_weights w.units in
    omega (arith, a, b, c, d, e, f, x, v, y, z)

whole_few : (qs : List PlainQueue) → sum_by whole qs ≤ length qs
whole_few [] = omega (arith)
whole_few (q ∷ qs) =
    let a = few q.ring.broken in
    let b = whole_few qs in
    let c = sum_by-cons whole q qs in
    omega (arith, a, b, c)
  where
    few : (o : Option RingFault) → if_whole o ≤ 1
    few None = omega (arith)
    few (Some f) = omega (arith)

-- at the start
pub owed_at_start : (old : PlainWorld) (trace : List Occurrence) (w : PlainWorld) → Reached old trace w
    → measure w + used_count price w
    ≤ accepted_count price w + sum_by answered_hand w.seats + visits w.function + length w.waiting + length w.queues
    + 2 * length w.woken
owed_at_start old trace w r =
    let a = held_owed w (owned old trace w r.opens r.runs) in
    let b = balanced price old trace w r.opens r.runs in
    let c = whole_few w.queues in
    omega (arith, a, b, c)

-- The order has no event of the guest or of the operator

pub own_pays : (d : Transition) (w : PlainWorld) → Happens d w → IsOwn (event_of d) → pays d ≡ fetches price d + 2 * visited d
own_pays (Transition.Poke x) w h o = absurd o
own_pays (Transition.Hard p jobs) w h o = absurd o
own_pays (Transition.Resize unit_index blocks) w h o = absurd o
own_pays Transition.Wake w h o = absurd o
own_pays (Transition.Deal unit_index x) w h o = absurd o
own_pays (Transition.Idle e) w h o = absurd h
own_pays d w h o = omega (arith)

-- Along a settling

-- each transition happens, and is of the device itself
abbrev pub AreOwnTransitions : PlainWorld → List Transition → Type 0
AreOwnTransitions w [] = ⊤
AreOwnTransitions w (d ∷ past) = AreOwnTransitions w past × Happens d (world_of w past) × IsOwn (event_of d)

pub settles_own : (w : PlainWorld) (more : List Transition) → Settles w more → AreOwnTransitions w more
settles_own w [] s = tt
settles_own w (d ∷ past) s = (settles_own w past s.0, s.1, own_next (world_of w past) (event_of d) s.2)

pub settles_of_own : (asked : ℕ → Bool) (w : PlainWorld) (more : List Transition) → SettlesOf asked w more
    → AreOwnTransitions w more
settles_of_own asked w [] s = tt
settles_of_own asked w (d ∷ past) s =
    (settles_of_own asked w past s.0, s.1, own_next_of asked (world_of w past) (event_of d) s.2)

accepted_on : (p : Ticket → ℕ) (w : PlainWorld) (more : List Transition) → AreOwnTransitions w more
    → accepted_count p (world_of w more) ≡ accepted_count p w + sum_by (fetches p) more
accepted_on p w [] s = omega (arith)
accepted_on p w (d ∷ past) s =
    let v = world_of w past in
    let a = (moves p d v (may d v s.1)).accepted in
    let b = accepted_on p w past s.0 in
    let c = sum_by-cons (fetches p) d past in
    omega (arith, a, b, c)

-- each step is paid for
all_paid : (w : PlainWorld) (more : List Transition) → AreOwnTransitions w more
    → measure (world_of w more) + length more
    ≤ measure w + sum_by (fetches price) more + 2 * sum_by visited more + 2 * roused_by w more
all_paid w [] s = omega (arith)
all_paid w (d ∷ past) s =
    let v = world_of w past in
    let here = lowers d v s.1 in
    let rest = all_paid w past s.0 in
    let own = own_pays d v s.1 s.2 in
    let a = sum_by-cons (fetches price) d past in
    let b = sum_by-cons visited d past in
    omega (arith, here, rest, own, a, b)

own_short : (old : PlainWorld) (trace : List Occurrence) (w : PlainWorld) (more : List Transition)
    → Reached old trace w → AreOwnTransitions w more → IsShort w more
own_short old trace w more r s =
    let a = all_paid w more s in
    let b = owed_at_start old trace w r in
    let c = accepted_on price w more s in
    omega (arith, a, b, c)

pub settles_short : (old : PlainWorld) (trace : List Occurrence) (w : PlainWorld) (more : List Transition)
    → Reached old trace w → Settles w more → IsShort w more
settles_short old trace w more r s = own_short old trace w more r (settles_own w more s)

pub settles_of_short : (asked : ℕ → Bool) (old : PlainWorld) (trace : List Occurrence) (w : PlainWorld)
    (more : List Transition) → Reached old trace w → SettlesOf asked w more → IsShort w more
settles_of_short asked old trace w more r s = own_short old trace w more r (settles_of_own asked w more s)
