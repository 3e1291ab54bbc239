-- What becomes of jobs that wait.
use Rattle.std.proofs.Common.{◌≡◌, ℕ, ◌+◌, ◌≤◌, List, [], ◌∷◌, length, Some, is_some, refl, sym, ◌∙◌, ap, inl, inr, arith}
use Rattle.std.specs.Prelude.{slice_get, Bool, false}
use Rattle.std.specs.List.{Contains, sum_by}
use Rattle.command_model.specs.PlainReply.{PlainReply}
use Rattle.std.proofs.lemmas.List.Sums.{sum_by-append, sum_by_push}
use Rattle.ring_core.specs.declared.log.Ticket.{Ticket}
use Rattle.unit_model.specs.declared.reason.Reason.{Reason}
use Rattle.unit_model.specs.Steps.{Step, done}
use Rattle.unit_model.specs.Lawful.{IsLawful}
use Rattle.unit_model.specs.Marks.{mark_of, marked}
use Rattle.unit_model.proofs.Marking.{marked_undone}
use Rattle.unit_model.proofs.Tickets.{clash}
use Rattle.unit_model.specs.Jobs.{PlainJob}
use Rattle.unit_model.specs.Unit.{PlainUnit}
use Rattle.device_model.specs.Parts.{Hand}
use Rattle.device_model.specs.World.{Seat, PlainWorld}
use Rattle.device_model.specs.Events.{Event}
use Rattle.device_model.specs.Transitions.{Transition, event_of}
use Rattle.device_model.specs.After.{after}
use Rattle.device_model.specs.Happens.{Happens, MayHappen, Occurrence, Reached, world_of}
use Rattle.device_model.specs.Found.{UnitIs, HasHand, HandAtUnit}
use Rattle.device_model.specs.Places.{of_chain, of_job, of_function, only, accepted_count, used_count}
use Rattle.device_model.specs.Standing.{NoneIsBacked}
use Rattle.device_model.specs.Order.{IsQuiet, IsAtRest, IsAtRestOf}
use Rattle.device_model.specs.Measure.{rouses, roused}
use Rattle.device_model.specs.Settling.{SettlesOf, roused_by}
use Rattle.device_model.specs.Waiting.{deferred, resumed}
use Rattle.device_model.proofs.Lists.{same}
use Rattle.device_model.proofs.Off.{first_counts}
use Rattle.device_model.proofs.Owning.{at_most_once}
use Rattle.device_model.proofs.Turning.{may}
use Rattle.device_model.proofs.Aside.{Bare, transition_bare, run_bare}
use Rattle.device_model.proofs.Withheld.{ran_done}
use Rattle.device_model.proofs.Rests.{quiet_rests, none_waiting, none_withheld}

-- no chain waits twice
pub waits_once : (t : Ticket) (old : PlainWorld) (trace : List Occurrence) (w : PlainWorld) → Reached old trace w
    → sum_by (of_job (only t)) w.aside + sum_by (of_job (only t)) w.woken ≤ 1
waits_once t old trace w r =
    let a = at_most_once old trace w r.opens r.runs t in
    omega (arith, a)

-- Aside and woken

pub aside_moves : (p : PlainJob → ℕ) (w : PlainWorld) (d : Transition) → MayHappen d w
    → sum_by p (after d w).aside + sum_by p (rouses w d) ≡ sum_by p w.aside + sum_by p (deferred d)
aside_moves p w (Transition.Defer k x) m = let a = sum_by_push p w.aside x in omega (arith, a)
aside_moves p w (Transition.Withhold k x r) m = let a = sum_by_push p w.aside x in omega (arith, a)
aside_moves p w Transition.Wake m = omega (arith)
aside_moves p w (Transition.Mark t i how jobs) m = omega (arith)
aside_moves p w (Transition.Hard i jobs) m = omega (arith)
aside_moves p w d m = omega (arith)

pub woken_moves : (p : PlainJob → ℕ) (w : PlainWorld) (d : Transition) → MayHappen d w
    → sum_by p (after d w).woken + sum_by p (resumed d) ≡ sum_by p w.woken + sum_by p (rouses w d)
woken_moves p w (Transition.Resume k x) m = let a = first_counts p w.woken x m.rest m.first in omega (arith, a)
woken_moves p w Transition.Wake m = let a = sum_by-append p w.woken w.aside in omega (arith, a)
woken_moves p w (Transition.Mark t i how jobs) m = let a = sum_by-append p w.woken w.aside in omega (arith, a)
woken_moves p w (Transition.Hard i jobs) m = let a = sum_by-append p w.woken w.aside in omega (arith, a)
woken_moves p w d m = omega (arith)

-- A task that is marked

one_hand : {a b : PlainJob} {xs ys : List PlainJob} (w : PlainWorld) (k : ℕ)
    → slice_get w.seats k ≡ Some (record { hand = Hand.Taken a; out = xs })
    → slice_get w.seats k ≡ Some (record { hand = Hand.Taken b; out = ys }) → a ≡ b
one_hand w k p q = let e = same (sym p ∙ q) in taken (ap (λ (s : Seat). s.hand) e)
  where
    taken : {a b : PlainJob} → Hand.Taken a ≡ Hand.Taken b → a ≡ b
    taken e = cc

same_number : {i k : ℕ} → Event.Commit i ≡ Event.Commit k → i ≡ k
same_number e = cc

-- the unit that marked the task of a hand isn't one in which its command may run
not_ready : (w : PlainWorld) (i k : ℕ) (x y : PlainJob) (u : PlainUnit) (why : Reason) → HasHand w k (Hand.Taken x)
    → UnitIs w x.unit u → mark_of x.entry.ticket u.steps ≡ Some why → i ≡ k → (h : HandAtUnit w i (Hand.Taken y) y.unit)
    → marked y.entry.ticket h.unit.steps ≡ false → ⊥
not_ready w i k x y u why hand at mark n h off =
    let here = ap (λ j. slice_get w.seats j) (sym n) ∙ h.seat in
    let is : x ≡ y = one_hand w k hand.1 here in
    let one : u ≡ h.unit = same (sym at ∙ ap (λ (z : PlainJob). slice_get w.units z.unit) is ∙ h.there) in
    let on = ap (λ o. is_some o) mark in
    let moved = ap (λ (z : PlainJob). marked z.entry.ticket u.steps) is in
    let there = ap (λ (z : PlainUnit). marked y.entry.ticket z.steps) one in
    clash (sym on ∙ moved ∙ there ∙ off)

-- nor one in which it ran
not_done : (w : PlainWorld) (i k : ℕ) (x y : PlainJob) (r : PlainReply) (u : PlainUnit) (why : Reason) → HasHand w k (Hand.Taken x)
    → UnitIs w x.unit u → IsLawful u.opening u.steps → mark_of x.entry.ticket u.steps ≡ Some why → i ≡ k
    → (h : HandAtUnit w i (Hand.Taken y) y.unit) → Contains h.unit.steps (Step.Commit y.entry.ticket r) → ⊥
not_done w i k x y r u why hand at lawful mark n h ran =
    let here = ap (λ j. slice_get w.seats j) (sym n) ∙ h.seat in
    let is : x ≡ y = one_hand w k hand.1 here in
    let one : u ≡ h.unit = same (sym at ∙ ap (λ (z : PlainJob). slice_get w.units z.unit) is ∙ h.there) in
    let on = ran_done y.entry.ticket r h.unit.steps ran in
    let moved = ap (λ (z : PlainJob). done z.entry.ticket u.steps) is in
    let there = ap (λ (z : PlainUnit). done y.entry.ticket z.steps) one in
    let off = marked_undone u.opening x.entry.ticket u.steps lawful (ap (λ o. is_some o) mark) in
    clash (sym on ∙ sym there ∙ sym moved ∙ off)

same_reason : {a b : Reason} → Some a ≡ Some b → a ≡ b
same_reason e = cc

both_alike : {i k : ℕ} {x y : PlainJob} {a b : Reason} → i ≡ k → y ≡ x → b ≡ a
    → Transition.CommitAborted i y b ≡ Transition.CommitAborted k x a
both_alike p q r = cc

pub marked_ends : (w : PlainWorld) (k : ℕ) (x : PlainJob) (u : PlainUnit) (why : Reason) (d : Transition)
    → HasHand w k (Hand.Taken x) → UnitIs w x.unit u → IsLawful u.opening u.steps → mark_of x.entry.ticket u.steps ≡ Some why
    → Happens d w → event_of d ≡ Event.Commit k → d ≡ Transition.CommitAborted k x why
marked_ends w k x u why (Transition.Commit i y r) hand at lawful mark h e =
    absurd (not_ready w i k x y u why hand at mark (same_number e) h.holds h.may.1.is_unmarked)
marked_ends w k x u why (Transition.CommitBusy i y) hand at lawful mark h e =
    absurd (not_ready w i k x y u why hand at mark (same_number e) h.holds h.may.1.is_unmarked)
marked_ends w k x u why (Transition.Defer i y) hand at lawful mark h e =
    absurd (elim h.waits [
      | inl ready ↦ not_ready w i k x y u why hand at mark (same_number e) h.holds ready.0.is_unmarked
      | inr r ↦ not_done w i k x y r.0 u why hand at lawful mark (same_number e) h.holds r.1.ran
    ])
marked_ends w k x u why (Transition.Withhold i y r) hand at lawful mark h e =
    absurd (not_ready w i k x y u why hand at mark (same_number e) h.holds h.may.1.is_unmarked)
marked_ends w k x u why (Transition.Conclude i y r) hand at lawful mark h e =
    absurd (not_done w i k x y r u why hand at lawful mark (same_number e) h.holds h.may.1.ran)
marked_ends w k x u why (Transition.CommitAborted i y q) hand at lawful mark h e =
    let n = same_number e in
    let here = ap (λ j. slice_get w.seats j) (sym n) ∙ h.holds.seat in
    let is : x ≡ y = one_hand w k hand.1 here in
    let one : u ≡ h.holds.unit = same (sym at ∙ ap (λ (z : PlainJob). slice_get w.units z.unit) is ∙ h.holds.there) in
    let moved = ap (λ (z : PlainJob). mark_of z.entry.ticket u.steps) is in
    let there = ap (λ (z : PlainUnit). mark_of y.entry.ticket z.steps) one in
    both_alike n (sym is) (same_reason (sym h.marked ∙ sym there ∙ sym moved ∙ mark))
marked_ends w k x u why (Transition.CommitUnknown i y) hand at lawful mark h e = absurd h
marked_ends w k x u why (Transition.EnterStale y) hand at lawful mark h e = absurd h
marked_ends w k x u why (Transition.Idle f) hand at lawful mark h e = absurd h
marked_ends w k x u why (Transition.Poke y) hand at lawful mark h e = absurd (cc)
marked_ends w k x u why d hand at lawful mark h e = absurd (cc)

-- Where no job waits

pub none_left : (w : PlainWorld) → w.aside ≡ [] → IsAtRest w
    → (p : Ticket → ℕ) → used_count p w + sum_by (of_chain p) w.buffers ≡ accepted_count p w
none_left w none rest p =
    let c = rest.chains p in
    let z = none_waiting p w rest.parked none in
    let f = ap (of_function p) (rest.closed (none_withheld w none)) in
    omega (arith, c, z, f)

pub none_left_of : (asked : ℕ → Bool) (w : PlainWorld) → w.aside ≡ [] → IsAtRestOf asked w
    → (p : Ticket → ℕ) → used_count p w + sum_by (of_chain p) w.buffers ≡ accepted_count p w
none_left_of asked w none rest p =
    let c = rest.chains p in
    let z = none_waiting p w rest.parked none in
    let f = ap (of_function p) (rest.closed (none_withheld w none)) in
    omega (arith, c, z, f)

-- Where no disk is one whose pages come and go

none_roused : (d : Transition) (w : PlainWorld) → w.aside ≡ [] → roused w d ≡ 0
none_roused (Transition.Mark t p how jobs) w e = ap (λ l. length l) e
none_roused (Transition.Hard p jobs) w e = ap (λ l. length l) e
none_roused Transition.Wake w e = ap (λ l. length l) e
none_roused d w e = refl

bare_on : (asked : ℕ → Bool) (w : PlainWorld) (more : List Transition) → Bare w → SettlesOf asked w more
    → Bare (world_of w more)
bare_on asked w [] b s = b
bare_on asked w (d ∷ past) b s =
    let v = world_of w past in
    transition_bare d v (may d v s.1) (bare_on asked w past b s.0)

none_roused_by : (asked : ℕ → Bool) (w : PlainWorld) (more : List Transition) → Bare w → SettlesOf asked w more
    → roused_by w more ≡ 0
none_roused_by asked w [] b s = refl
none_roused_by asked w (d ∷ past) b s =
    let here = none_roused d (world_of w past) (bare_on asked w past b s.0).1 in
    let rest = none_roused_by asked w past b s.0 in
    omega (arith, here, rest)

pub bare_steps : (asked : ℕ → Bool) (old : PlainWorld) (trace : List Occurrence) (w : PlainWorld) (more : List Transition)
    → Reached old trace w → NoneIsBacked old → SettlesOf asked w more → roused_by w more ≡ 0
bare_steps asked old trace w more r none s = none_roused_by asked w more (run_bare old trace w r.opens r.runs none) s

pub bare_rest : (asked : ℕ → Bool) (old : PlainWorld) (trace : List Occurrence) (w : PlainWorld) → Reached old trace w
    → NoneIsBacked old → IsAtRestOf asked w
    → (p : Ticket → ℕ) → used_count p w + sum_by (of_chain p) w.buffers ≡ accepted_count p w
bare_rest asked old trace w r none rest p =
    let b = run_bare old trace w r.opens r.runs none in
    let c = rest.chains p in
    let z = none_waiting p w rest.parked b.1 in
    let f = ap (of_function p) (rest.closed (none_withheld w b.1)) in
    omega (arith, c, z, f)

pub quiet_woken : (old : PlainWorld) (trace : List Occurrence) (w : PlainWorld) → Reached old trace w → IsQuiet w
    → w.woken ≡ []
quiet_woken old trace w r q = (quiet_rests old trace w r q).woken
