-- How many Commits the phases make, and that they are no act of the operator.
use Rattle.std.proofs.Common.{◌≡◌, ℕ, ◌+◌, ◌≤◌, Bool, true, false, List, [], ◌∷◌, length, Some, refl, inl, inr, ◌&&◌, sym, subst, ap, ◌∙◌, arith, if◌then◌else◌}
use Rattle.std.proofs.lemmas.Bool.{false≢true}
use Rattle.unit_model.specs.Jobs.{PlainJob, Jobs}
use Rattle.unit_model.specs.Steps.{Step}
use Rattle.unit_model.specs.Unit.{PlainUnit, is_backed}
use Rattle.logical_unit.specs.Calls.{Commits as CommitsUnit}
use Rattle.logical_unit.specs.declared.outcomes.Outcome as answers
use Rattle.logical_unit.specs.declared.outcomes.Outcome.TheVariants as outcome
use Rattle.device_model.specs.Parts.{Slot, Hand}
use Rattle.device_model.specs.Transitions.{Transition}
use Rattle.phases.specs.DoingUnit.{DoesUnit}
use Rattle.phases.specs.Parts.{hand_of}
use Rattle.phases.specs.Giving.{is_reply, KeepsOutcome}
use Rattle.phases.specs.declared.hand.Hand as declared
use Rattle.phases.specs.declared.hand.Hand.TheVariants as hand
use Rattle.lock_scopes.specs.declared.joined_unit.NextJob.{NextJob}
use Rattle.lock_scopes.specs.declared.joined_unit.NextJob.TheVariants.{Listed, Taken, Committed}
use Rattle.lock_scopes.specs.Joined.{LeavesEnters, RunsNext, LeavesEntersRuns}
use Rattle.phases.specs.Units.{IsEntering, WithholdsInHand, Enters, Commits, Leaves}
use Rattle.lock_scopes.specs.Ledgers.{commits_of, receipts_due, receipts_made, receipts_run, KeepsActs}
use Rattle.lock_scopes.specs.Acts.{acts_of}

-- a unit has as many Commits as another, and the same acts of the operator
abbrev pub AsMany : PlainUnit → PlainUnit → Type 0
AsMany u v = (commits_of v.steps ≡ commits_of u.steps) × KeepsActs u v

-- a unit has so many more Commits, and the same acts of the operator
abbrev pub HasMore : ℕ → PlainUnit → PlainUnit → Type 0
HasMore n u v = (commits_of v.steps ≡ commits_of u.steps + n) × KeepsActs u v

off_left : (a b : Bool) → a ≡ false → (a && b) ≡ false
off_left a b h = ap (λ c. c && b) h

counted_as : {v w : PlainUnit} → v ≡ w → commits_of v.steps ≡ commits_of w.steps
counted_as e = ap (λ (z : PlainUnit). commits_of z.steps) e

acted_as : {v w : PlainUnit} → v ≡ w → KeepsActs w v
acted_as e = (ap (λ (z : PlainUnit). acts_of z.steps) e, ap (λ (z : PlainUnit). z.opening) e, ap is_backed e)

-- one unit after another
on : (u v w : PlainUnit) → KeepsActs u v → KeepsActs v w → KeepsActs u w
on u v w a b = (b.0 ∙ a.0, b.1 ∙ a.1, b.2 ∙ a.2)

same : (u v : PlainUnit) → v ≡ u → AsMany u v
same u v e = (counted_as e, acted_as e)

-- what a closure left of what it was lent
pub none_made : (u v a b : PlainUnit) (n : ℕ) → a ≡ u → b ≡ v → AsMany a b → n ≡ 0 → HasMore n u v
none_made u v a b n first last m none =
    (omega (arith, counted_as first, counted_as last, m.0, none), on u a v (acted_as first) (on a b v m.1 (acted_as (sym last))))

pub leaves_none : (h : Hand) (u : PlainUnit) (out : Jobs) (b : Bool) (v : PlainUnit) (h' : Hand) (out' : Jobs)
    → Leaves h u out b v h' out' → AsMany u v
leaves_none (Hand.Answered unit_index t) u out true v h' out' e = (counted_as (e 0).0.is, acted_as (e 0).0.is)
leaves_none (Hand.Answered unit_index t) u out false v h' out' e = same u v e.0
leaves_none Hand.Empty u out true v h' out' e = absurd e
leaves_none Hand.Empty u out false v h' out' e = same u v e.0
leaves_none (Hand.Taken x) u out true v h' out' e = absurd e
leaves_none (Hand.Taken x) u out false v h' out' e = same u v e.0
leaves_none (Hand.Done x o) u out true v h' out' e = absurd e
leaves_none (Hand.Done x o) u out false v h' out' e = same u v e.0

entered : (d : Transition) (x : PlainJob) (u v : PlainUnit) → IsEntering x d → DoesUnit d u v → AsMany u v
entered (Transition.Run y) x u v is does = (counted_as does.is, acted_as does.is)
entered (Transition.Park y) x u v is does = (counted_as does.is, acted_as does.is)
entered (Transition.EnterFull y) x u v is does = (counted_as does.is, acted_as does.is)
entered (Transition.EnterBusy y) x u v is does = (counted_as does.is, acted_as does.is)
entered (Transition.EnterStale y) x u v is does = (counted_as does.is, acted_as does.is)
entered d x u v is does = absurd is

enters_none : (s : Slot) (u : PlainUnit) (out : Jobs) (b : Bool) (v : PlainUnit) (s' : Slot) (out' : Jobs)
    → Enters s u out b v s' out' → AsMany u v
enters_none (Slot.Arrived x) u out true v s' out' (d, is, does, slot, jobs) = entered d x u v is does
enters_none (Slot.Arrived x) u out false v s' out' (none, stays) = same u v stays.unit
enters_none Slot.Empty u out true v s' out' e = absurd e
enters_none Slot.Empty u out false v s' out' e = same u v e.unit
enters_none (Slot.Direct c o) u out true v s' out' e = absurd e
enters_none (Slot.Direct c o) u out false v s' out' e = same u v e.unit

both : (u v w : PlainUnit) → AsMany u v → AsMany v w → AsMany u w
both u v w a b = (b.0 ∙ a.0, on u v w a.1 b.1)

pub turns_none : (h : Hand) (s : Slot) (u : PlainUnit) (out : Jobs) (v : PlainUnit) (h' : Hand) (s' : Slot) (out' : Jobs)
    → LeavesEnters h s u out v h' s' out' → AsMany u v
turns_none h s u out v h' s' out' e =
    both u e.between v (leaves_none h u out e.left e.between h' e.listed e.leaves) (enters_none s e.between e.listed e.entered v s' out' e.enters)

-- what a unit answers leaves a receipt where a Commit was made
answers_count : (u : PlainUnit) (x : PlainJob) (o : answers.Outcome) (v : PlainUnit) → CommitsUnit u x o v
    → HasMore (if is_reply (Some o) then 1 else 0) u v
answers_count u x (outcome.Reply receipt) v (e, of, ready, r, replies, is, steps, at_once) = (counted_as steps.is, acted_as steps.is)
answers_count u x (outcome.Aborted why) v (e, of, marked, is) = (omega (arith, counted_as is), acted_as is)
answers_count u x outcome.Busy v (e, of, short, steps) = let made = counted_as steps.is in (omega (arith, made), acted_as steps.is)
answers_count u x outcome.Unknown v (cannot, is, none) = (omega (arith, counted_as is), acted_as is)

-- only where a disk is backed is a reply withheld
none_withheld : (x : PlainJob) (u v : PlainUnit) (h' : Hand) → WithholdsInHand x u v h' → is_backed u ≡ false → ⊥
none_withheld x u v h' w resident =
    let (e, ready, replies, waits) = (w.does 0).asks in
    false≢true (sym (off_left (is_backed u) _ resident) ∙ waits)

-- where a commit isn't over, a unit whose disk isn't backed is as it was
pub stays : (h : Hand) (u v : PlainUnit) (h' : Hand) → Commits h u false v h' → is_backed u ≡ false → v ≡ u
stays Hand.Empty u v h' c resident = c.0
stays (Hand.Taken x) u v h' (inl c) resident = c.unit
stays (Hand.Taken x) u v h' (inr c) resident = absurd (none_withheld x u v h' c resident)
stays (Hand.Done x o) u v h' c resident = c.0
stays (Hand.Answered unit_index t) u v h' c resident = c.0

-- and a job that was taken is in the hand still
pub taken_still : (x : PlainJob) (h : Hand) (u v : PlainUnit) (h' : Hand) → h ≡ Hand.Taken x → Commits h u false v h'
    → h' ≡ Hand.Taken x
taken_still x h u v h' is c = by_case (subst (λ g. Commits g u false v h') is c)
  where
    by_case : Commits (Hand.Taken x) u false v h' → h' ≡ Hand.Taken x
    by_case (inl s) = s.hand
    by_case (inr s) = s.hand

commits_count : (h : declared.Hand) (u v : PlainUnit) (h' : declared.Hand) (k : Hand) → Commits (hand_of h) u true v k
    → KeepsOutcome h u v h' → HasMore (receipts_due h') u v
commits_count hand.Empty u v h' k c keeps = absurd c
commits_count (hand.Answered unit_index t) u v h' k c keeps = absurd c
commits_count (hand.Job held) u v h' k c (o, did, is) =
    subst (λ z. HasMore (receipts_due z) u v) (sym is) (answers_count u held.job o v did)

-- a commit that isn't over is none
pub commit_counts : (h : declared.Hand) (u : PlainUnit) (b : Bool) (v : PlainUnit) (h' : declared.Hand) → Commits (hand_of h) u b v (hand_of h')
    → (b ≡ true → is_backed u ≡ false → KeepsOutcome h u v h') → is_backed u ≡ false → HasMore (receipts_made b h') u v
commit_counts h u true v h' c keeps resident = commits_count h u v h' (hand_of h') c (keeps refl resident)
commit_counts h u false v h' c keeps resident =
    let is = stays (hand_of h) u v (hand_of h') c resident in (omega (arith, counted_as is), acted_as is)

runs_count : (at : ℕ) (next : NextJob) (h : declared.Hand) (u : PlainUnit) (out : Jobs) (v : PlainUnit) (h' : declared.Hand) (out' : Jobs)
    → RunsNext at h u out next v h' out' → is_backed u ≡ false → HasMore (receipts_run next h') u v
runs_count at Listed h u out v h' out' e resident = (omega (arith, counted_as e.1), acted_as e.1)
runs_count at Taken h u out v h' out' e resident = (omega (arith, counted_as (e.0 resident)), acted_as (e.0 resident))
runs_count at Committed h u out v h' out' e resident =
    commits_count e.between u v h' (hand_of h') e.commits (e.keeps resident)

pub turns_count : (at : ℕ) (h : declared.Hand) (s : Slot) (u : PlainUnit) (out : Jobs) (next : NextJob) (v : PlainUnit) (h' : declared.Hand)
    (s' : Slot) (out' : Jobs) → LeavesEntersRuns at h s u out next v h' s' out' → is_backed u ≡ false → HasMore (receipts_run next h') u v
turns_count at h s u out next v h' s' out' e resident =
    let turns = turns_none (hand_of h) s u out e.between (hand_of e.hand) s' e.listed e.turns in
    let runs = runs_count at next e.hand e.between e.listed v h' out' e.runs (turns.1.2 ∙ resident) in
    (omega (arith, runs.0, turns.0), on u e.between v turns.1 runs.1)

-- and the same of what a closure was lent
pub some_made : (u v a b : PlainUnit) (n m : ℕ) → a ≡ u → b ≡ v → HasMore m a b → n ≡ m → HasMore n u v
some_made u v a b n m first last made is =
    (omega (arith, counted_as first, counted_as last, made.0, is), on u a v (acted_as first) (on a b v made.1 (acted_as (sym last))))

-- no history has more Commits than steps
few_commits : (past : List Step) → commits_of past ≤ length past
few_commits [] = omega arith
few_commits (Step.Enter e ∷ past) = let m = few_commits past in omega (arith, m)
few_commits (Step.Full t ∷ past) = let m = few_commits past in omega (arith, m)
few_commits (Step.Commit t r ∷ past) = let m = few_commits past in omega (arith, m)
few_commits (Step.Busy t ∷ past) = let m = few_commits past in omega (arith, m)
few_commits (Step.Abort rule ∷ past) = let m = few_commits past in omega (arith, m)
few_commits (Step.Reset c ∷ past) = let m = few_commits past in omega (arith, m)
few_commits (Step.Resize n ∷ past) = let m = few_commits past in omega (arith, m)
few_commits (Step.Leave t ∷ past) = let m = few_commits past in omega (arith, m)

pub fewer_commits : (past : List Step) (n : ℕ) → n ≡ length past → commits_of past ≤ n
fewer_commits past n is = omega (arith, few_commits past, is)
