-- The tasks of each unit are as many as the jobs that it holds, and those of its jobs that are under way.
use Rattle.std.proofs.Common.{◌≡◌, ℕ, ◌+◌, Bool, true, false, not, eqb, cond, List, [], ◌∷◌, ◌++◌, drop, Some, refl, sym, ◌∙◌, ap, subst, arith, inl, inr}
use Rattle.std.specs.Prelude.{slice_get}
use Rattle.std.specs.List.{AllByRecursion, sum_by}
use Rattle.std.proofs.lemmas.Bool.{eq-eqb}
use Rattle.std.proofs.lemmas.List.Sums.{sum_by-append, sum_by-cons, sum_by_push}
use Rattle.std.proofs.lemmas.List.Filters.{sum_by-filter_both}
use Rattle.ring_core.specs.declared.log.Ticket.{Ticket}
use Rattle.unit_model.specs.Endings.{Ending}
use Rattle.unit_model.specs.Steps.{Step, alive}
use Rattle.unit_model.specs.Released.{released}
use Rattle.unit_model.specs.Weights.{weight, alive_count}
use Rattle.unit_model.proofs.Parked.{alive_enter, alive_leave}
use Rattle.unit_model.specs.Jobs.{PlainJob, is_job_of, of_tasks}
use Rattle.unit_model.specs.Unit.{PlainUnit, after as stepped, parking, dealing}
use Rattle.task_mgmt.specs.Functions.{step_by}
use Rattle.task_mgmt.specs.declared.kind.MarkBy.{MarkBy}
use Rattle.task_mgmt.specs.declared.kind.MarkBy.TheVariants.{Abort, Reset}
use Rattle.device_model.specs.Parts.{Outcome, Hand}
use Rattle.device_model.specs.World.{Seat, PlainWorld, Opens, IsNewUnit, IsNewSeat, change, owner, all_of, all_off}
use Rattle.device_model.specs.Transitions.{Transition}
use Rattle.device_model.specs.Changing.{with_hand, without_first, with_jobs, with_job, leaving}
use Rattle.device_model.specs.Event.Hard.{hard_code}
use Rattle.device_model.specs.After.{after}
use Rattle.device_model.specs.Happens.{MayHappen}
use Rattle.device_model.specs.Found.{handed_out}
use Rattle.device_model.proofs.Lists.{same, at_other}
use Rattle.device_model.proofs.Jobs.{sum_change}
use Rattle.device_model.proofs.Places.{nothing_counts}
use Rattle.device_model.proofs.Named.{IsFor, UnitsHoldOwn, AreNamed, given_own, done_is_named}
use Rattle.device_model.proofs.Off.{off_put, off_taken, between, between_sum, woken_sum, none_between, first_counts}

-- What a unit's jobs under way count, each by what p says of its ticket

abbrev pub own : (Ticket → ℕ) → PlainJob → ℕ
own p x = p x.entry.ticket

-- a job counts for the unit of its index
abbrev pub of_index : ℕ → (Ticket → ℕ) → PlainJob → ℕ
of_index n p x = cond (eqb x.unit n) (p x.entry.ticket) 0

abbrev pub hand_count : ℕ → (Ticket → ℕ) → Hand → ℕ
hand_count n p Hand.Empty = 0
hand_count n p (Hand.Taken x) = of_index n p x
hand_count n p (Hand.Done x o) = of_index n p x
hand_count n p (Hand.Answered unit_index t) = cond (eqb unit_index n) (p t) 0

abbrev pub seat_count : ℕ → (Ticket → ℕ) → Seat → ℕ
seat_count n p s = hand_count n p s.hand + sum_by (of_index n p) s.out

abbrev pub out_count : ℕ → (Ticket → ℕ) → List Seat → List PlainJob → ℕ
out_count n p seats off = sum_by (seat_count n p) seats + sum_by (of_index n p) off

-- the tasks alive of the unit are those that it holds jobs of, and this many
abbrev UnitBalances : ℕ → (Ticket → ℕ) → List PlainUnit → ℕ → Type 0
UnitBalances n p us out =
    (u : PlainUnit) → slice_get us n ≡ Some u → alive_count p u.steps ≡ sum_by (own p) u.parked + out

abbrev pub AreBalanced : PlainWorld → Type 0
AreBalanced w = (n : ℕ) (p : Ticket → ℕ) → UnitBalances n p w.units (out_count n p w.seats (between w))

-- Seats

abbrev seat : Hand → List PlainJob → Seat
seat hand out = record { hand = hand; out = out }

-- a seat gets jobs
gets : (n : ℕ) (p : Ticket → ℕ) (k : ℕ) (seats : List Seat) (s : Seat) (jobs : List PlainJob)
    → slice_get seats k ≡ Some s
    → sum_by (seat_count n p) (change (with_jobs jobs) k seats)
    ≡ sum_by (seat_count n p) seats + sum_by (of_index n p) jobs
gets n p k seats s jobs at =
    let c = sum_change (seat_count n p) (with_jobs jobs) k seats s at in
    let a = sum_by-append (of_index n p) s.out jobs in
    omega (arith, c, a)

-- a seat's hand changes
turns : (n : ℕ) (p : Ticket → ℕ) (k : ℕ) (seats : List Seat) (old new : Hand) (out : List PlainJob)
    → slice_get seats k ≡ Some (seat old out)
    → sum_by (seat_count n p) (change (with_hand new) k seats) + hand_count n p old
    ≡ sum_by (seat_count n p) seats + hand_count n p new
turns n p k seats old new out at =
    let c = sum_change (seat_count n p) (with_hand new) k seats (seat old out) at in
    omega (arith, c)

-- a free seat's first job goes
goes : (n : ℕ) (p : Ticket → ℕ) (k : ℕ) (seats : List Seat) (new : Hand) (x : PlainJob) (rest : List PlainJob)
    → slice_get seats k ≡ Some (seat Hand.Empty (x ∷ rest))
    → sum_by (seat_count n p) (change (without_first new) k seats) + of_index n p x
    ≡ sum_by (seat_count n p) seats + hand_count n p new
goes n p k seats new x rest at =
    let c = sum_change (seat_count n p) (without_first new) k seats (seat Hand.Empty (x ∷ rest)) at in
    let a = sum_by-cons (of_index n p) x rest in
    omega (arith, c, a)

-- a seat's task leaves
frees : (n : ℕ) (p : Ticket → ℕ) (k : ℕ) (seats : List Seat) (old : Hand) (out jobs : List PlainJob)
    → slice_get seats k ≡ Some (seat old out)
    → sum_by (seat_count n p) (change (leaving jobs) k seats) + hand_count n p old
    ≡ sum_by (seat_count n p) seats + sum_by (of_index n p) jobs
frees n p k seats old out jobs at =
    let c = sum_change (seat_count n p) (leaving jobs) k seats (seat old out) at in
    let a = sum_by-append (of_index n p) out jobs in
    omega (arith, c, a)

-- what a transition brings from a unit, and what leaves its unit by it
abbrev came : ℕ → (Ticket → ℕ) → Transition → ℕ
came n p (Transition.Run x) = of_index n p x
came n p (Transition.Leave k unit_index t jobs) = sum_by (of_index n p) jobs
came n p (Transition.Mark t m s jobs) = sum_by (of_index n p) jobs
came n p (Transition.Hard m jobs) = sum_by (of_index n p) jobs
came n p d = 0

abbrev gone : ℕ → (Ticket → ℕ) → Transition → ℕ
gone n p (Transition.Leave k unit_index t jobs) = cond (eqb unit_index n) (p t) 0
gone n p d = 0

abbrev Flows : ℕ → (Ticket → ℕ) → Transition → PlainWorld → Type 0
Flows n p d w =
    out_count n p (after d w).seats (between (after d w)) + gone n p d
    ≡ out_count n p w.seats (between w) + came n p d

-- a transition adds what it brings to what is under way, and takes away what leaves
flows : (n : ℕ) (p : Ticket → ℕ) (d : Transition) (w : PlainWorld) → MayHappen d w → AreNamed w → Flows n p d w
flows n p (Transition.Run x) w m h =
    let c = m.comes in
    let g = gets n p (owner w.workers x.chain.ticket.queue) w.seats c.seat (x ∷ []) c.seat_there in
    omega (arith, g)
flows n p (Transition.Put k x) w m h =
    let g = goes n p k w.seats Hand.Empty x m.rest m.seat in
    let a = off_put (of_index n p) k w.handed_off m.off x m.there in
    let b = between_sum (of_index n p) (all_off w) w.aside w.woken in
    let c = between_sum (of_index n p) (all_of (change (with_job x) k w.handed_off)) w.aside w.woken in
    omega (arith, g, a, b, c)
flows n p (Transition.Keep k x) w m h = let g = goes n p k w.seats (Hand.Taken x) x m.rest m.seat in omega (arith, g)
flows n p (Transition.Take k from x) w m h =
    let t = turns n p k w.seats Hand.Empty (Hand.Taken x) [] m.seat in
    let a = off_taken (of_index n p) from w.handed_off x m.rest m.handed_off in
    let b = between_sum (of_index n p) (all_off w) w.aside w.woken in
    let c = between_sum (of_index n p) (all_of (change (drop 1) from w.handed_off)) w.aside w.woken in
    omega (arith, t, a, b, c)
flows n p (Transition.Commit k x r) w m h =
    let new = Hand.Done x (Outcome.Ended (Ending.Replied r)) in
    let t = turns n p k w.seats (Hand.Taken x) new m.holds.out m.holds.seat in
    omega (arith, t)
flows n p (Transition.CommitBusy k x) w m h =
    let new = Hand.Done x (Outcome.Ended Ending.Busy) in
    let t = turns n p k w.seats (Hand.Taken x) new m.holds.out m.holds.seat in
    omega (arith, t)
flows n p (Transition.CommitAborted k x why) w m h =
    let new = Hand.Done x (Outcome.Ended (Ending.Aborted why)) in
    let t = turns n p k w.seats (Hand.Taken x) new m.holds.out m.holds.seat in
    omega (arith, t)
flows n p (Transition.CommitUnknown k x) w m h =
    let new = Hand.Done x (Outcome.Ended Ending.Lost) in
    let t = turns n p k w.seats (Hand.Taken x) new m.holds.out m.holds.seat in
    omega (arith, t)
flows n p (Transition.Defer k x) w m h =
    let t = turns n p k w.seats (Hand.Taken x) Hand.Empty m.holds.out m.holds.seat in
    let a = sum_by_push (of_index n p) w.aside x in
    let b = between_sum (of_index n p) (all_off w) w.aside w.woken in
    let c = between_sum (of_index n p) (all_off w) (w.aside ++ x ∷ []) w.woken in
    omega (arith, t, a, b, c)
flows n p (Transition.Withhold k x r) w m h =
    let t = turns n p k w.seats (Hand.Taken x) Hand.Empty m.holds.out m.holds.seat in
    let a = sum_by_push (of_index n p) w.aside x in
    let b = between_sum (of_index n p) (all_off w) w.aside w.woken in
    let c = between_sum (of_index n p) (all_off w) (w.aside ++ x ∷ []) w.woken in
    omega (arith, t, a, b, c)
flows n p (Transition.Conclude k x r) w m h =
    let new = Hand.Done x (Outcome.Ended (Ending.Replied r)) in
    let t = turns n p k w.seats (Hand.Taken x) new m.holds.out m.holds.seat in
    omega (arith, t)
flows n p Transition.Wake w m h =
    let a = woken_sum (of_index n p) (all_off w) w.aside w.woken in
    omega (arith, a)
flows n p (Transition.Resume k x) w m h =
    let t = turns n p k w.seats Hand.Empty (Hand.Taken x) m.free.0 m.free.1 in
    let a = first_counts (of_index n p) w.woken x m.rest m.first in
    let b = between_sum (of_index n p) (all_off w) w.aside w.woken in
    let c = between_sum (of_index n p) (all_off w) w.aside (drop 1 w.woken) in
    omega (arith, t, a, b, c)
flows n p (Transition.Answer k x o xs) w m h =
    let t = turns n p k w.seats (Hand.Done x o) (Hand.Answered x.unit x.chain.ticket) m.out m.seat in
    let e = ap (λ i. cond (eqb x.unit n) (p i) 0) (done_is_named k x o m.out w m.seat h) in
    omega (arith, t, e)
flows n p (Transition.Leave k unit_index t jobs) w m h =
    let f = frees n p k w.seats (Hand.Answered unit_index t) m.holds.out jobs m.holds.seat in
    omega (arith, f)
flows n p (Transition.Mark t i s jobs) w m h =
    let g = gets n p 0 w.seats m.seat jobs m.seat_there in
    let a = woken_sum (of_index n p) (all_off w) w.aside w.woken in
    omega (arith, g, a)
flows n p (Transition.Hard i jobs) w m h =
    let g = gets n p w.workers w.seats m.seat jobs m.seat_there in
    let a = woken_sum (of_index n p) (all_off w) w.aside w.woken in
    omega (arith, g, a)
flows n p d w m h = omega (arith)

-- Units

-- one unit goes on: its tasks gain what the jobs under way do
moves : (n : ℕ) (p : Ticket → ℕ) (g : PlainUnit → PlainUnit) (k : ℕ) (us : List PlainUnit) (u : PlainUnit)
    (a b out out' : ℕ) → slice_get us k ≡ Some u
    → alive_count p (g u).steps + sum_by (own p) u.parked + b ≡ alive_count p u.steps + sum_by (own p) (g u).parked + a
    → out' + cond (eqb k n) b 0 ≡ out + cond (eqb k n) a 0
    → UnitBalances n p us out → UnitBalances n p (change g k us) out'
moves n p g k us u a b out out' at e f h y there =
    let o = at_other g k us n y there in
    let old = h o.0 o.1 in
    elim o.2 [
      | inl q ↦
          let is : o.0 ≡ u = same (sym o.1 ∙ ap (λ i. slice_get us i) q.0 ∙ at) in
          let now : y ≡ g u = q.1 ∙ ap g is in
          let here = eq-eqb k n (sym q.0) in
          let fa = ap (λ c. cond c a 0) here in
          let fb = ap (λ c. cond c b 0) here in
          let old' = subst (λ (z : PlainUnit). alive_count p z.steps ≡ sum_by (own p) z.parked + out) is old in
          subst (λ (z : PlainUnit). alive_count p z.steps ≡ sum_by (own p) z.parked + out') (sym now)
          (omega (arith, old', e, f, fa, fb))
      | inr q ↦
          let fa = ap (λ c. cond c a 0) q.0 in
          let fb = ap (λ c. cond c b 0) q.0 in
          subst (λ (z : PlainUnit). alive_count p z.steps ≡ sum_by (own p) z.parked + out') (sym q.1)
          (omega (arith, old, f, fa, fb))
    ]

split : (b : Bool) (x y z : ℕ) → z ≡ x + y → cond b z 0 ≡ cond b x 0 + cond b y 0
split true x y z e = e
split false x y z e = refl

abbrev if_so : Bool → ℕ → ℕ
if_so b n = cond b n 0

nought : (b : Bool) → if_so b 0 ≡ 0
nought true = refl
nought false = refl

-- what jobs for one unit count
for_index : (n : ℕ) (p : Ticket → ℕ) (k : ℕ) (jobs : List PlainJob) → AllByRecursion (IsFor k) jobs
    → sum_by (of_index n p) jobs ≡ cond (eqb k n) (sum_by (own p) jobs) 0
for_index n p k [] h = sym (nought (eqb k n))
for_index n p k (j ∷ jobs) h =
    let a = for_index n p k jobs h.1 in
    let b = sum_by-cons (of_index n p) j jobs in
    let c = split (eqb k n) (own p j) (sum_by (own p) jobs) (sum_by (own p) (j ∷ jobs)) (sum_by-cons (own p) j jobs) in
    let d = ap (λ i. cond (eqb i n) (p j.entry.ticket) 0) h.0.0 in
    omega (arith, a, b, c, d)

-- a unit's jobs are those that a step hands out, and those that it keeps
parted : (p : Ticket → ℕ) (s : Step) (u : PlainUnit)
    → sum_by (own p) u.parked ≡ sum_by (own p) (handed_out u s) + sum_by (own p) (stepped s u).parked
parted p s u =
    let among = released s u.steps in
    let b = sum_by-filter_both (is_job_of among) (λ j. not (is_job_of among j)) (λ j. refl) (own p) u.parked in
    omega (arith, b)

gives_none : (jobs : List PlainJob) → of_tasks [] jobs ≡ []
gives_none [] = refl
gives_none (j ∷ jobs) = gives_none jobs

-- a step that hands out no job keeps them all
keeps_all : (p : Ticket → ℕ) (s : Step) (u : PlainUnit) → released s u.steps ≡ []
    → sum_by (own p) (stepped s u).parked ≡ sum_by (own p) u.parked
keeps_all p s u e =
    let c = parted p s u in
    let b = ap (λ l. sum_by (own p) (of_tasks l u.parked)) e in
    let z = ap (λ l. sum_by (own p) l) (gives_none u.parked) in
    omega (arith, c, b, z)

-- a step after which the same tasks are alive, and that hands out jobs
gives : (n : ℕ) (p : Ticket → ℕ) (s : Step) (k : ℕ) (us : List PlainUnit) (u : PlainUnit) (jobs : List PlainJob)
    (out out' : ℕ) → slice_get us k ≡ Some u → alive (s ∷ u.steps) ≡ alive u.steps → jobs ≡ handed_out u s
    → UnitsHoldOwn us → out' + 0 ≡ out + sum_by (of_index n p) jobs → UnitBalances n p us out
    → UnitBalances n p (change (stepped s) k us) out'
gives n p s k us u jobs out out' at same_alive e holds f h =
    let c = parted p s u in
    let j = ap (λ l. sum_by (of_index n p) l) e ∙ for_index n p k (handed_out u s) (given_own s k us u at holds) in
    let a = ap (weight p) same_alive in
    let z = nought (eqb k n) in
    moves n p (stepped s) k us u (sum_by (own p) (handed_out u s)) 0 out out' at (omega (arith, c, a))
    (omega (arith, f, j, z)) h

-- one that hands out none
calm : (n : ℕ) (p : Ticket → ℕ) (s : Step) (k : ℕ) (us : List PlainUnit) (u : PlainUnit) (out out' : ℕ)
    → slice_get us k ≡ Some u → alive (s ∷ u.steps) ≡ alive u.steps → released s u.steps ≡ [] → out' + 0 ≡ out + 0
    → UnitBalances n p us out → UnitBalances n p (change (stepped s) k us) out'
calm n p s k us u out out' at same_alive none f h =
    let c = keeps_all p s u none in
    let a = ap (weight p) same_alive in
    let z = nought (eqb k n) in
    moves n p (stepped s) k us u 0 0 out out' at (omega (arith, c, a)) (omega (arith, f, z)) h

same_mark : (s : MarkBy) (past : List Step) → alive (step_by s ∷ past) ≡ alive past
same_mark (Abort rule) past = refl
same_mark (Reset c) past = refl

pub transition_balances : (d : Transition) (w : PlainWorld) → MayHappen d w → AreNamed w → AreBalanced w → AreBalanced (after d w)
transition_balances (Transition.Run x) w m names h n p =
    let d = Transition.Run x in
    let out = out_count n p w.seats (between w) in
    let out' = out_count n p (after d w).seats (between (after d w)) in
    let u = m.comes.unit in
    let c = keeps_all p (Step.Enter x.entry) u refl in
    let a = alive_enter p x.entry u.steps in
    let f = flows n p d w m names in
    let z = nought (eqb x.unit n) in
    moves n p (stepped (Step.Enter x.entry)) x.unit w.units u (p x.entry.ticket) 0 out out' m.comes.unit_there
    (omega (arith, c, a)) (omega (arith, f, z)) (h n p)
transition_balances (Transition.Park x) w m names h n p =
    let out = out_count n p w.seats (between w) in
    let u = m.comes.unit in
    let c = sum_by_push (own p) u.parked x in
    let a = alive_enter p x.entry u.steps in
    moves n p (parking x) x.unit w.units u 0 0 out out m.comes.unit_there (omega (arith, c, a)) refl (h n p)
transition_balances (Transition.EnterFull x) w m names h n p =
    let out = out_count n p w.seats (between w) in
    calm n p (Step.Full x.entry.ticket) x.unit w.units m.comes.unit out out m.comes.unit_there refl refl refl (h n p)
transition_balances (Transition.Commit k x r) w m names h n p =
    let d = Transition.Commit k x r in
    let out = out_count n p w.seats (between w) in
    let out' = out_count n p (after d w).seats (between (after d w)) in
    calm n p (Step.Commit x.entry.ticket r) x.unit w.units m.holds.unit out out' m.holds.there refl refl
    (flows n p d w m names) (h n p)
transition_balances (Transition.Withhold k x r) w m names h n p =
    let d = Transition.Withhold k x r in
    let out = out_count n p w.seats (between w) in
    let out' = out_count n p (after d w).seats (between (after d w)) in
    calm n p (Step.Commit x.entry.ticket r) x.unit w.units m.holds.unit out out' m.holds.there refl refl
    (flows n p d w m names) (h n p)
transition_balances (Transition.CommitBusy k x) w m names h n p =
    let d = Transition.CommitBusy k x in
    let out = out_count n p w.seats (between w) in
    let out' = out_count n p (after d w).seats (between (after d w)) in
    calm n p (Step.Busy x.entry.ticket) x.unit w.units m.holds.unit out out' m.holds.there refl refl
    (flows n p d w m names) (h n p)
transition_balances (Transition.Leave k unit_index t jobs) w m names h n p =
    let d = Transition.Leave k unit_index t jobs in
    let s = Step.Leave t in
    let u = m.holds.unit in
    let out = out_count n p w.seats (between w) in
    let out' = out_count n p (after d w).seats (between (after d w)) in
    let c = parted p s u in
    let g = given_own s unit_index w.units u m.holds.there names.1 in
    let j = ap (λ l. sum_by (of_index n p) l) m.enables ∙ for_index n p unit_index (handed_out u s) g in
    let a = alive_leave p t m.may.0 u.steps m.may.1 in
    let f = flows n p d w m names in
    moves n p (stepped s) unit_index w.units u (sum_by (own p) (handed_out u s)) (p t) out out' m.holds.there
    (omega (arith, c, a)) (omega (arith, f, j)) (h n p)
transition_balances (Transition.Mark t i s jobs) w m names h n p =
    let d = Transition.Mark t i s jobs in
    let u = m.marking.unit in
    let out = out_count n p w.seats (between w) in
    let out' = out_count n p (after d w).seats (between (after d w)) in
    gives n p (step_by s) i.unit w.units u jobs out out' m.marking.unit_there (same_mark s u.steps) m.releases names.1
    (flows n p d w m names) (h n p)
transition_balances (Transition.Hard i jobs) w m names h n p =
    let d = Transition.Hard i jobs in
    let out = out_count n p w.seats (between w) in
    let out' = out_count n p (after d w).seats (between (after d w)) in
    gives n p (Step.Reset hard_code) i.unit w.units m.unit jobs out out' m.there refl m.releases names.1
    (flows n p d w m names) (h n p)
transition_balances (Transition.Resize unit_index blocks) w m names h n p =
    let out = out_count n p w.seats (between w) in
    calm n p (Step.Resize blocks) unit_index w.units m.unit out out m.there refl refl refl (h n p)
transition_balances (Transition.Deal unit_index x) w m names h n p =
    let out = out_count n p w.seats (between w) in
    moves n p (dealing x) unit_index w.units m.unit 0 0 out out m.there (omega (arith)) refl (h n p)
transition_balances d w m names h n p =
    let f = flows n p d w m names in
    λ u at. let b = h n p u at in omega (arith, b, f)

-- At the opening

no_weight : (n : ℕ) (p : Ticket → ℕ) (s : Seat) → IsNewSeat s → seat_count n p s ≡ 0
no_weight n p s is =
    let a = ap (hand_count n p) is.hand in
    let b = ap (λ l. sum_by (of_index n p) l) is.out in
    omega (arith, a, b)

pub new_balanced : (w : PlainWorld) → Opens w → AreBalanced w
new_balanced w o n p u at =
    let is : IsNewUnit u = o.units n u at in
    let a = ap (alive_count p) is.steps in
    let b = ap (λ l. sum_by (own p) l) is.parked in
    let c = nothing_counts (seat_count n p) w.seats (λ i s there. no_weight n p s (o.seats i s there)) in
    let d = ap (λ l. sum_by (of_index n p) l) (none_between w o.handed_off o.aside o.woken) in
    omega (arith, a, b, c, d)
