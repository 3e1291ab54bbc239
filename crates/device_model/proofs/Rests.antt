-- Where no event of the order applies, nothing is outstanding.
use Rattle.std.proofs.Common.{◌≡◌, ℕ, ◌<◌, ◌≤◌, Bool, true, false, not, ◌&&◌, ◌||◌, eqb, cond, List, [], ◌∷◌, filter, length, Option, Some, None, refl, sym, ◌∙◌, ap, subst, arith, inl, inr}
use Rattle.std.specs.Prelude.{slice_get}
use Rattle.std.specs.List.{sum_by, AllByRecursion}
use Rattle.std.proofs.lemmas.Bool.{eqb-true}
use Rattle.std.proofs.lemmas.Option.{slice_get_within, slice_get_cases}
use Rattle.std.proofs.lemmas.List.Sums.{sum_by-cons}
use Rattle.scsi_codec.specs.declared.event_queue.Event.{Event as EventRecord}
use Rattle.ring_core.specs.declared.descriptor.Part.{Part}
use Rattle.ring_core.specs.declared.fault.RingFault.{RingFault}
use Rattle.ring_core.specs.State.{RingState, PlainChain}
use Rattle.ring_core.specs.Offer.{Offer, Nothing, Found, Refused, Offers}
use Rattle.ring_core.proofs.Exact.{offers_once}
use Rattle.ring_core.proofs.Exists.{offers_some}
use Rattle.ring_core.specs.declared.log.Ticket.{Ticket}
use Rattle.unit_model.specs.Tasks.{Entry, same_ticket, any_task, task_of}
use Rattle.unit_model.specs.Steps.{Step, alive, done}
use Rattle.unit_model.specs.Clearing.{is_clear}
use Rattle.unit_model.specs.Marks.{marked}
use Rattle.unit_model.specs.Contents.{Opening}
use Rattle.unit_model.specs.Lawful.{IsLawful}
use Rattle.unit_model.proofs.Tickets.{same-true, apart, clash}
use Rattle.unit_model.specs.Enabling.{enabled, is_parked}
use Rattle.unit_model.specs.Weights.{weight, alive_count, each_one}
use Rattle.unit_model.proofs.Weight.{weight_filter}
use Rattle.unit_model.proofs.Fewer.{parked_fewer}
use Rattle.unit_model.specs.Jobs.{PlainJob}
use Rattle.unit_model.specs.Unit.{PlainUnit, tasks_of_jobs, IsUnit}
use Rattle.task_mgmt.specs.declared.function.Mark.{Mark as MarkAt}
use Rattle.device_model.specs.Parts.{Slot, Hand}
use Rattle.device_model.specs.World.{PlainQueue, Seat, Opened, PlainWorld, Everywhere, all_off}
use Rattle.device_model.specs.Events.{Event}
use Rattle.device_model.specs.Happens.{Occurrence, Reached}
use Rattle.device_model.specs.Event.Fetch.{IsOpenTo}
use Rattle.device_model.specs.Laws.{in_hand, at_seat}
use Rattle.device_model.specs.Places.{of_chain, of_job, of_function, of_slot, at_queue, at_unit, accepted_count, used_count, only}
use Rattle.device_model.specs.Changing.{bit}
use Rattle.device_model.specs.Standing.{IsOwned, IsAside, FunctionIsThere}
use Rattle.device_model.proofs.Places.{nothing_counts, balanced}
use Rattle.device_model.proofs.Staying.{run_stays, run_keeps, units_listed}
use Rattle.device_model.proofs.Owning.{owned}
use Rattle.device_model.proofs.Tasks.{own, hand_count, seat_count, of_index, out_count}
use Rattle.device_model.proofs.Working.{run_works, one, no_bit}
use Rattle.device_model.proofs.Functions.{FindsUnits, new_finds, transition_finds}
use Rattle.device_model.specs.Order.{IsNext, IsQuiet, IsAtRest, IsQuietOf, IsAtRestOf, AreBehindAside, NoneIsWithheld, waiting_count}
use Rattle.device_model.proofs.Choosing.{next_or_quiet}
use Rattle.device_model.proofs.Quiet.{Never, QuietQueue, QuietSeat, quiet_of_all, all_quiet}
use Rattle.device_model.proofs.Off.{none_off, between, between_sum}
use Rattle.device_model.proofs.Lists.{same}
use Rattle.device_model.proofs.Handed.{IsParked, all_parked, parked_undone}
use Rattle.device_model.proofs.Meeting.{ended, clear_there}
use Rattle.device_model.proofs.Withheld.{ran_done}
use Rattle.device_model.proofs.Aside.{run_aside}
use Rattle.device_model.specs.Found.{UnitIs}

-- the first of both holds of all
all_first : (P : PlainChain → Type 0) (cs : List PlainChain)
    → AllByRecursion (λ (c : PlainChain). (c.ticket.queue ≡ 1) × P c) cs
    → AllByRecursion (λ (c : PlainChain). c.ticket.queue ≡ 1) cs
all_first P [] h = tt
all_first P (c ∷ cs) h = (h.0.0, all_first P cs h.1)

-- Seats

pub record EmptySeat (s : Seat) : Type 0 where
  pub hand : s.hand ≡ Hand.Empty
  pub out : s.out ≡ []

free_hand : (w : PlainWorld) (k : ℕ) (hand : Hand) (out : List PlainJob)
    → slice_get w.seats k ≡ Some (record { hand = hand; out = out }) → QuietSeat w k → hand ≡ Hand.Empty
free_hand w k Hand.Empty out at q = refl
free_hand w k (Hand.Taken x) out at q = absurd (q.commit (x, (out, at)))
free_hand w k (Hand.Done x o) out at q = absurd (q.answer (x, o, (out, at)))
free_hand w k (Hand.Answered unit_index t) out at q = absurd (q.leave (unit_index, t, (out, at)))

no_jobs : (w : PlainWorld) (k : ℕ) (out : List PlainJob)
    → slice_get w.seats k ≡ Some (record { hand = Hand.Empty; out = out }) → QuietSeat w k → out ≡ []
no_jobs w k [] at q = refl
no_jobs w k (x ∷ rest) at q = absurd (q.put (record { job = x; rest = rest; seat = at }))

-- a seat at which nothing is to be done has nothing
empty_seat : (w : PlainWorld) (k : ℕ) (s : Seat) → slice_get w.seats k ≡ Some s → QuietSeat w k → EmptySeat s
empty_seat w k s at q =
    let free = free_hand w k s.hand s.out at q in
    record {
      hand = free;
      out =
          no_jobs w k s.out
          (subst (λ h. slice_get w.seats k ≡ Some (record { hand = h; out = s.out })) free at) q;
    }

-- with a worker that has nothing each list of the hand-off is empty: whoever takes looks at all of them
none_handed_off : (w : PlainWorld) (s : Seat) (k : ℕ) (jobs : List PlainJob) → 1 ≤ w.workers
    → slice_get w.seats 0 ≡ Some s → EmptySeat s → Never w (Event.Take 0) → slice_get w.handed_off k ≡ Some jobs
    → jobs ≡ []
none_handed_off w s k [] works at e never off = refl
none_handed_off w s k (x ∷ rest) works at e never off =
    let free = subst (λ h. slice_get w.seats 0 ≡ Some (record { hand = h; out = s.out })) e.hand at in
    let bare = subst (λ l. slice_get w.seats 0 ≡ Some (record { hand = Hand.Empty; out = l })) e.out free in
    absurd (never (record { worker = works; seat = bare; from = k; job = x; rest = rest; handed_off = off }))

-- with a worker that has nothing, no job is to be tried again
none_woken : (w : PlainWorld) (s : Seat) (k : ℕ) (jobs : List PlainJob) → k < w.workers → slice_get w.seats k ≡ Some s
    → EmptySeat s → Never w (Event.Resume k) → w.woken ≡ jobs → jobs ≡ []
none_woken w s k [] works at e never is = refl
none_woken w s k (x ∷ rest) works at e never is =
    let free = subst (λ h. slice_get w.seats k ≡ Some (record { hand = h; out = s.out })) e.hand at in
    absurd (never (record { worker = works; free = (s.out, free); job = x; rest = rest; first = is }))

-- Units

-- the weight of the tasks of jobs
jobs_count : (p : Ticket → ℕ) (jobs : List PlainJob) → sum_by (own p) jobs ≡ weight p (tasks_of_jobs jobs)
jobs_count p [] = refl
jobs_count p (j ∷ jobs) =
    let a = jobs_count p jobs in
    let b = sum_by-cons (own p) j jobs in
    omega (arith, a, b)

any_none : (es : List Entry) → (any_task es ≡ true → ⊥) → es ≡ []
any_none [] h = refl
any_none (e ∷ es) h = absurd (h refl)

-- as many alive as parked: none alive
none_alive : (u : PlainUnit) → IsUnit u → alive_count each_one u.steps ≡ sum_by (own each_one) u.parked
    → alive u.steps ≡ []
none_alive u is e =
    any_none (alive u.steps) (λ some.
    let lt = parked_fewer u.steps some in
    let a = jobs_count each_one u.parked in
    let b = ap (weight each_one) is.holds in
    let c = weight_filter each_one (is_parked u.steps) (alive u.steps) in
    omega (arith, lt, e, a, b, c))

no_jobs_left : (jobs : List PlainJob) → tasks_of_jobs jobs ≡ [] → jobs ≡ []
no_jobs_left [] h = refl
no_jobs_left (j ∷ jobs) h = absurd (cc)

none_parked : (u : PlainUnit) → IsUnit u → alive u.steps ≡ [] → u.parked ≡ []
none_parked u is e = no_jobs_left u.parked (is.holds ∙ ap (filter (is_parked u.steps)) e)

-- A task that is done or was marked isn't parked, and doesn't wait, where no reply is withheld

-- no task of the ticket
none_found : (t : Ticket) (es : List Entry) → weight (one t) es ≡ 0 → task_of t es ≡ None
none_found t [] z = refl
none_found t (e ∷ es) z =
    let off = no_bit (same_ticket t e.ticket) (omega (arith, z)) in
    ap (λ b. cond b (Some e) (task_of t es)) (apart t e.ticket off) ∙ none_found t es (omega (arith, z))

-- two tickets of which one is that of a task that ended
other_ticket : (t u : Ticket) (h : List Step) → ended t h ≡ true → ended u h ≡ false → one t u ≡ 0
other_ticket t u h on off =
    (elim (same_ticket t u) as (λ b. same_ticket t u ≡ b → bit b ≡ 0) [
      | true ↦ λ k. absurd (clash (sym on ∙ ap (λ z. ended z h) (same-true t u k) ∙ off))
      | false ↦ λ k. refl
    ]) refl

none_of_parked : (t : Ticket) (h : List Step) (jobs : List PlainJob) → ended t h ≡ true
    → AllByRecursion (λ (j : PlainJob). ended j.entry.ticket h ≡ false) jobs → sum_by (own (one t)) jobs ≡ 0
none_of_parked t h [] on off = refl
none_of_parked t h (j ∷ jobs) on off =
    let a = other_ticket t j.entry.ticket h on off.0 in
    let b = none_of_parked t h jobs on off.1 in
    let c = sum_by-cons (own (one t)) j jobs in
    omega (arith, a, b, c)

neither : (a b : Bool) → (not a && not b) ≡ true → b ≡ false
neither true b h = absurd (cc)
neither false true h = absurd (cc)
neither false false h = refl

or_off : (a b : Bool) → a ≡ false → b ≡ false → (a || b) ≡ false
or_off a b e f = ap (λ c. c || b) e ∙ f

-- a parked task goes on
parked_goes_on : (o : Opening) (h : List Step) (jobs : List PlainJob) → IsLawful o h
    → AllByRecursion (λ (j : PlainJob). IsParked h j.entry) jobs
    → AllByRecursion (λ (j : PlainJob). ended j.entry.ticket h ≡ false) jobs
parked_goes_on o h [] l p = tt
parked_goes_on o h (j ∷ jobs) l p = (
  or_off (done j.entry.ticket h) (marked j.entry.ticket h) (parked_undone o h j.entry l p.0)
      (neither (enabled j.entry h) (marked j.entry.ticket h) p.0.1),
  parked_goes_on o h jobs l p.1,
)

-- so does one that waits, and whose command didn't run
aside_ready : (w : PlainWorld) (x : PlainJob) (h : IsAside w x)
    → ((u : PlainUnit) → UnitIs w x.unit u → done x.entry.ticket u.steps ≡ false) → ended x.entry.ticket h.unit.steps ≡ false
aside_ready w x h none =
    let t = x.entry.ticket in
    let v = h.unit.steps in
    elim h.waits [
      | inl r ↦ or_off (done t v) (marked t v) r.is_undone r.is_unmarked
      | inr q ↦ absurd (clash (sym (ran_done t q.0 v q.1.ran) ∙ none h.unit h.there))
    ]

aside_count : (w : PlainWorld) (n : ℕ) (u : PlainUnit) (t : Ticket) (xs : List PlainJob) → slice_get w.units n ≡ Some u
    → ended t u.steps ≡ true → AllByRecursion (IsAside w) xs
    → AllByRecursion (λ (x : PlainJob). (v : PlainUnit) → UnitIs w x.unit v → done x.entry.ticket v.steps ≡ false) xs
    → sum_by (of_index n (one t)) xs ≡ 0
aside_count w n u t [] at on h none = refl
aside_count w n u t (x ∷ xs) at on h none =
    let here : of_index n (one t) x ≡ 0 =
    (elim (eqb x.unit n) as (λ b. eqb x.unit n ≡ b → cond b (one t x.entry.ticket) 0 ≡ 0) [
      | true ↦ λ k.
          let is : h.0.unit ≡ u = same (sym h.0.there ∙ ap (λ i. slice_get w.units i) (eqb-true x.unit n k) ∙ at) in
          let off = aside_ready w x h.0 none.0 in
          other_ticket t x.entry.ticket u.steps on
          (ap (λ (z : PlainUnit). ended x.entry.ticket z.steps) (sym is) ∙ off)
      | false ↦ λ k. refl
    ]) refl in
    let rest = aside_count w n u t xs at on h.1 none.1 in
    let c = sum_by-cons (of_index n (one t)) x xs in
    omega (arith, here, rest, c)

-- no job for the unit of an index
none_for : (n : ℕ) (xs : List PlainJob) → AllByRecursion (λ (x : PlainJob). x.unit ≡ n → ⊥) xs
    → sum_by (of_index n each_one) xs ≡ 0
none_for n [] h = refl
none_for n (x ∷ xs) h =
    let here : of_index n each_one x ≡ 0 =
    (elim (eqb x.unit n) as (λ b. eqb x.unit n ≡ b → cond b (each_one x.entry.ticket) 0 ≡ 0) [
      | true ↦ λ k. absurd (h.0 (eqb-true x.unit n k))
      | false ↦ λ k. refl
    ]) refl in
    let rest = none_for n xs h.1 in
    let c = sum_by-cons (of_index n each_one) x xs in
    omega (arith, here, rest, c)

-- each place of a mark is clear
abbrev AreIdle : PlainWorld → Type 0
AreIdle w = Everywhere (λ i u. (place : ℕ) → is_clear place u.steps ≡ true) w.units

-- The function

-- the place of a mark is clear
its_place : (w : PlainWorld) (m : MarkAt) → AreIdle w → m.unit < length w.units
    → (u : PlainUnit) × (slice_get w.units m.unit ≡ Some u) × (is_clear m.place u.steps ≡ true)
its_place w m idle lt =
    elim (slice_get_cases w.units m.unit).1 [
      | inl q ↦ (q.0, q.2, idle m.unit q.0 q.2 m.place)
      | inr q ↦ absurd (let le = q.0 in omega (arith, le, lt))
    ]

stuck : (w : PlainWorld) (o : Opened) (left : List ℕ) (waits : List MarkAt) → w.function ≡ Some o
    → o.function.left ≡ left → o.function.waits ≡ waits → AllByRecursion (λ (m : MarkAt). m.unit < length w.units) waits
    → AreIdle w → Never w Event.Mark → Never w Event.Check → Never w Event.AnswerTmf → ⊥
stuck w o (unit_index ∷ later) waits at a b there idle mark check answer =
    mark (record { opened = o; there = at; unit_index = unit_index; later = later; left = a })
stuck w o [] [] at a b there idle mark check answer =
    answer (record { opened = o; there = at; left = a; still = b })
stuck w o [] (m ∷ later) at a b there idle mark check answer =
    let p = its_place w m idle there.0 in
    check (record {
      opened = o;
      there = at;
      left = a;
      mark = m;
      later = later;
      still = b;
      unit = p.0;
      unit_there = p.1;
      clear = p.2;
    })

-- a function that can go on in no way isn't there
no_function : (w : PlainWorld) (o : Option Opened) → w.function ≡ o → FunctionIsThere (length w.units) o → AreIdle w
    → Never w Event.Mark → Never w Event.Check → Never w Event.AnswerTmf → o ≡ None
no_function w None at there idle mark check answer = refl
no_function w (Some o) at there idle mark check answer =
    absurd (stuck w o o.function.left o.function.waits at refl refl there.1 idle mark check answer)

-- Queues

empty_slot : (asked : ℕ → Bool) (w : PlainWorld) (i : ℕ) (q : PlainQueue) (s : Slot) → slice_get w.queues i ≡ Some q → q.slot ≡ s
    → QuietQueue asked w i → s ≡ Slot.Empty
empty_slot asked w i q Slot.Empty at e h = refl
empty_slot asked w i q (Slot.Arrived x) at e h = absurd (h.enter (x, (q, at, e)))
empty_slot asked w i q (Slot.Direct c o) at e h = absurd (h.direct (c, o, (q, at, e)))

found_or_nothing : {id slots : ℕ} {parts : List Part} → Found id slots parts ≡ Nothing → ⊥
found_or_nothing e = cc

refused_or_nothing : {f : RingFault} → Refused f ≡ Nothing → ⊥
refused_or_nothing e = cc

-- a queue that can't but offer nothing does
nothing_offered : (s : RingState) (m : List ℕ) (o : Offer) → Offers s m o → ((Offers s m Nothing → ⊥) → ⊥)
    → Offers s m Nothing
nothing_offered s m Nothing h never = h
nothing_offered s m (Found id slots parts) h never =
    absurd (never (λ n. found_or_nothing (offers_once s m (Found id slots parts) Nothing h n)))
nothing_offered s m (Refused f) h never =
    absurd (never (λ n. refused_or_nothing (offers_once s m (Refused f) Nothing h n)))

nothing_there : (w : PlainWorld) (i : ℕ) (q : PlainQueue) → slice_get w.queues i ≡ Some q → q.slot ≡ Slot.Empty
    → Never w (Event.Fetch i) → IsOpenTo w i → q.ring.broken ≡ None → Offers q.ring w.memory Nothing
nothing_there w i q at empty never opened unbroken =
    let o = offers_some q.ring w.memory in
    nothing_offered q.ring w.memory o.0 o.1 (λ some. never (record {
      queue = q;
      there = at;
      empty = empty;
      opened = opened;
      whole = unbroken;
      has_some = some;
    }))

-- The port

no_report : (w : PlainWorld) (l : List EventRecord) → w.waiting ≡ l → Never w Event.Raise → l ≡ []
no_report w [] e never = refl
no_report w (report ∷ later) e never = absurd (never (report, later, e))

bare_seat : (n : ℕ) (p : Ticket → ℕ) (s : Seat) → EmptySeat s → seat_count n p s ≡ 0
bare_seat n p s e =
    let a = ap (hand_count n p) e.hand in
    let b = ap (λ l. sum_by (of_index n p) l) e.out in
    omega (arith, a, b)

bare : (p : Ticket → ℕ) (s : Seat) → EmptySeat s → at_seat (of_job p) s ≡ 0
bare p s e =
    let a = ap (in_hand (of_job p)) e.hand in
    let b = ap (λ l. sum_by (of_job p) l) e.out in
    omega (arith, a, b)

-- the function's units are there
units_there : (old : PlainWorld) (trace : List Occurrence) (w : PlainWorld) → Reached old trace w
    → FunctionIsThere (length w.units) w.function
units_there old trace w r =
    let finds = run_keeps FindsUnits transition_finds old trace w (new_finds old r.opens) r.runs in
    subst (λ n. FunctionIsThere n w.function) (sym (units_listed old trace w r.opens r.runs)) finds

pub quiet_rests_of : (asked : ℕ → Bool) (old : PlainWorld) (trace : List Occurrence) (w : PlainWorld)
    → Reached old trace w → IsQuietOf asked w → IsAtRestOf asked w
quiet_rests_of asked old trace w r h =
    let quiet = all_quiet asked w h in
    let parts = run_stays old trace w r.runs in
    let own = owned old trace w r.opens r.runs in
    let working = run_works old trace w r.opens r.runs in
    let works : 1 ≤ w.workers = (let a = r.opens.working in let b = parts.workers in omega (arith, a, b)) in
    let first : 0 < length w.seats = (let a = r.opens.seated in let b = parts.seats in omega (arith, a, b)) in
    let seats : (k : ℕ) (s : Seat) → slice_get w.seats k ≡ Some s → EmptySeat s = λ k s at.
    empty_seat w k s at (quiet.seats k (slice_get_within w.seats k s at)) in
    let off : all_off w ≡ [] =
    elim (slice_get_cases w.seats 0).1 [
      | inl q ↦
          none_off w.handed_off (λ k jobs at.
          none_handed_off w q.0 k jobs works q.2 (seats 0 q.0 q.2) (quiet.seats 0 first).take at)
      | inr q ↦ absurd (let le = q.0 in omega (arith, le, first))
    ] in
    let woken : w.woken ≡ [] =
    elim (slice_get_cases w.seats 0).1 [
      | inl q ↦ none_woken w q.0 0 w.woken works q.2 (seats 0 q.0 q.2) (quiet.seats 0 first).resume refl
      | inr q ↦ absurd (let le = q.0 in omega (arith, le, first))
    ] in
    let aside = run_aside old trace w r.opens r.runs in
    let under_way : (n : ℕ) (p : Ticket → ℕ) → out_count n p w.seats (between w) ≡ sum_by (of_index n p) w.aside = λ n p.
    let a = nothing_counts (seat_count n p) w.seats (λ k s at. bare_seat n p s (seats k s at)) in
    let b = between_sum (of_index n p) (all_off w) w.aside w.woken in
    let c = ap (λ l. sum_by (of_index n p) l) off in
    let d = ap (λ l. sum_by (of_index n p) l) woken in
    omega (arith, a, b, c, d) in
    let idle : NoneIsWithheld w → AreIdle w = λ none i u at place.
    let is = working.0 i u at in
    clear_there u.opening place u.steps is.lawful (λ t on.
    let a = working.2 i (one t) u at in
    let b = under_way i (one t) in
    let c = aside_count w i u t w.aside at on aside none in
    let parked = all_parked u.opening u.steps u.parked is.lawful is.holds in
    let d = none_of_parked t u.steps u.parked on (parked_goes_on u.opening u.steps u.parked is.lawful parked) in
    none_found t (alive u.steps) (omega (arith, a, b, c, d))) in
    let slots : (i : ℕ) (q : PlainQueue) → slice_get w.queues i ≡ Some q → q.slot ≡ Slot.Empty = λ i q at.
    empty_slot asked w i q q.slot at refl (quiet.queues i (slice_get_within w.queues i q at)) in
    let there = units_there old trace w r in
    record {
      chains = λ p.
          let a = nothing_counts (at_queue p) w.queues (λ i q at. ap (of_slot p) (slots i q at)) in
          let b = nothing_counts (at_seat (of_job p)) w.seats (λ k s at. bare p s (seats k s at)) in
          let c = ap (λ l. sum_by (of_job p) l) woken in
          let d = ap (λ l. sum_by (of_job p) l) off in
          let f = balanced p old trace w r.opens r.runs in
          omega (arith, a, b, c, d, f);
      parked = λ i u at none.
          let a = working.2 i each_one u at in
          let b = under_way i each_one in
          let c = none_for i w.aside none in
          let is = working.0 i u at in
          none_parked u is (none_alive u is (omega (arith, a, b, c)));
      woken = woken;
      buffers = all_first (IsOwned w) w.buffers own.buffers;
      closed = λ none. no_function w w.function refl there (idle none) quiet.mark quiet.check quiet.answer_tmf;
      waiting = no_report w w.waiting refl quiet.raise;
      queues = λ i q at is opened unbroken.
          let lt = slice_get_within w.queues i q at in
          nothing_there w i q at (slots i q at) ((quiet.queues i lt).fetch is) opened unbroken;
    }

pub quiet_rests : (old : PlainWorld) (trace : List Occurrence) (w : PlainWorld) → Reached old trace w → IsQuiet w
    → IsAtRest w
quiet_rests old trace w r h =
    let rest = quiet_rests_of (λ q. true) old trace w r (quiet_of_all w h) in
    record {
      chains = rest.chains;
      parked = rest.parked;
      woken = rest.woken;
      buffers = rest.buffers;
      closed = rest.closed;
      waiting = rest.waiting;
      queues = λ i q at opened unbroken. rest.queues i q at refl opened unbroken;
    }

-- where a chain is outstanding that is no event buffer, an event is next
pub next_there : (old : PlainWorld) (trace : List Occurrence) (w : PlainWorld) (t : Ticket) → Reached old trace w
    → used_count (only t) w < accepted_count (only t) w → sum_by (of_chain (only t)) w.buffers ≡ 0
    → waiting_count (only t) w ≡ 0 → of_function (only t) w.function ≡ 0 → (e : Event) × IsNext w e
next_there old trace w t r out no_buffer none_waits no_function =
    elim (next_or_quiet w) [
      | inl next ↦ next
      | inr quiet ↦
          let c = (quiet_rests old trace w r quiet).chains (only t) in
          absurd (omega (arith, out, no_buffer, none_waits, no_function, c))
    ]

-- that of a function too, where no reply is withheld
pub next_there_told : (old : PlainWorld) (trace : List Occurrence) (w : PlainWorld) (t : Ticket) → Reached old trace w
    → used_count (only t) w < accepted_count (only t) w → sum_by (of_chain (only t)) w.buffers ≡ 0
    → waiting_count (only t) w ≡ 0 → NoneIsWithheld w → (e : Event) × IsNext w e
next_there_told old trace w t r out no_buffer none_waits none =
    elim (next_or_quiet w) [
      | inl next ↦ next
      | inr quiet ↦
          let rest = quiet_rests old trace w r quiet in
          let c = rest.chains (only t) in
          let f = ap (of_function (only t)) (rest.closed none) in
          absurd (omega (arith, out, no_buffer, none_waits, c, f))
    ]

pub none_withheld : (w : PlainWorld) → w.aside ≡ [] → NoneIsWithheld w
none_withheld w e =
    subst (λ xs. AllByRecursion (λ (x : PlainJob). (u : PlainUnit) → UnitIs w x.unit u → done x.entry.ticket u.steps ≡ false) xs)
    (sym e) tt

-- where no job waits, no chain is left over
all_at : (i : ℕ) (xs : List PlainJob) → xs ≡ [] → AllByRecursion (λ (x : PlainJob). x.unit ≡ i → ⊥) xs
all_at i [] e = tt
all_at i (x ∷ xs) e = absurd (cc)

pub none_waiting : (p : Ticket → ℕ) (w : PlainWorld) → AreBehindAside w → w.aside ≡ [] → waiting_count p w ≡ 0
none_waiting p w behind e =
    let a = ap (λ l. sum_by (of_job p) l) e in
    let b = nothing_counts (at_unit p) w.units (λ i u at.
    ap (λ l. sum_by (of_job p) l) (behind i u at (all_at i w.aside e))) in
    omega (arith, a, b)

pub next_there_bare : (old : PlainWorld) (trace : List Occurrence) (w : PlainWorld) (t : Ticket) → Reached old trace w
    → used_count (only t) w < accepted_count (only t) w → sum_by (of_chain (only t)) w.buffers ≡ 0
    → w.aside ≡ [] → (e : Event) × IsNext w e
next_there_bare old trace w t r out no_buffer none =
    elim (next_or_quiet w) [
      | inl next ↦ next
      | inr quiet ↦
          let rest = quiet_rests old trace w r quiet in
          let c = rest.chains (only t) in
          let z = none_waiting (only t) w rest.parked none in
          let f = ap (of_function (only t)) (rest.closed (none_withheld w none)) in
          absurd (omega (arith, out, no_buffer, z, c, f))
    ]
