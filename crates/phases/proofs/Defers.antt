-- What a commit that may wait is, as a transition; and a visit of a function is a mark or a look.
use Rattle.std.proofs.Common.{ℕ, ◌≡◌, Bool, true, false, List, [], ◌∷◌, Option, Some, None, refl, ap, sym, ◌∙◌, subst, inl, inr}
use Rattle.std.specs.Prelude.{◌⊎◌, is_some, IsTrue, IsFalse, IfSome}
use Rattle.std.proofs.lemmas.Bool.{false≢true}
use Rattle.request_intake.specs.Inventory.{PlainInventory}
use Rattle.unit_model.specs.Jobs.{PlainJob, Jobs}
use Rattle.unit_model.specs.Unit.{PlainUnit}
use Rattle.logical_unit.specs.Calls as calls
use Rattle.logical_unit.specs.declared.outcomes.Outcome as outcome_type
use Rattle.task_mgmt.specs.declared.kind.Kind.{Kind}
use Rattle.task_mgmt.specs.declared.kind.Kind.TheVariants.{Marking, Querying}
use Rattle.device_model.specs.Parts.{Hand}
use Rattle.device_model.specs.World.{Opened}
use Rattle.phases.specs.DoingUnit.{with_more}
use Rattle.phases.specs.Outcomes.{PlainJobInHand}
use Rattle.phases.specs.Parts.{hand_with, committing_unit}
use Rattle.phases.specs.Units.{Commits, MarksUnit, Marks, MarksNext}
use Rattle.phases.specs.Inner.Units.{PutsAside, CommitsOrDefers, VisitsUnit, VisitsNext, Visits}
use Rattle.phases.proofs.Commits.{Ends, taken}
use Rattle.phases.specs.declared.marking.Visited.{Visited}
use Rattle.phases.specs.declared.marking.Visited.TheVariants as visited

abbrev job_with : PlainJob → Option outcome_type.Outcome → PlainJobInHand
job_with x o = record { job = x; outcome = o }

-- what came of a commit that is over
pub came : (x : PlainJob) (u v : PlainUnit) (made : Option outcome_type.Outcome) (b : Bool) → b ≡ is_some made
    → IfSome made (λ o. Ends u x o v) → IsTrue b
    → (o : outcome_type.Outcome) × Ends u x o v × (job_with x made ≡ job_with x (Some o))
came x u v None b is ran on = absurd (false≢true (sym is ∙ on))
came x u v (Some o) b is ran on = (o, ran, refl)

-- a commit that is over leaves the list as it was
pub over : (h : Hand) (u v : PlainUnit) (h' : Hand) (aside : Jobs) → Commits h u true v h'
    → CommitsOrDefers h u aside true v h' aside
over Hand.Empty u v h' aside c = (c, refl)
over (Hand.Taken x) u v h' aside c = inl (c, refl)
over (Hand.Done x o) u v h' aside c = (c, refl)
over (Hand.Answered unit_index t) u v h' aside c = (c, refl)

-- a job that waits, or whose reply does, is in the hand still
still_taken : (x : PlainJob) (u v : PlainUnit) (g : Hand) → Commits (Hand.Taken x) u false v g → g ≡ Hand.Taken x
still_taken x u v g (inl s) = s.hand
still_taken x u v g (inr s) = s.hand

-- where no job is to be committed nothing changes
pub none_over : (h g : Hand) (u v : PlainUnit) (aside : Jobs) → committing_unit g ≡ None → Commits h u false v g
    → CommitsOrDefers h u aside false v g aside
none_over Hand.Empty g u v aside none s = (s, refl)
none_over (Hand.Taken x) g u v aside none s =
    let is : Some x.unit ≡ None = sym (ap committing_unit (still_taken x u v g s)) ∙ none in
    absurd (cc)
none_over (Hand.Done x o) g u v aside none s = (s, refl)
none_over (Hand.Answered unit_index t) g u v aside none s = (s, refl)

-- a job that is to be committed still
pub to_commit : (x : PlainJob) (o : Option outcome_type.Outcome) (p : ℕ) → Some p ≡ committing_unit (hand_with x o)
    → hand_with x o ≡ Hand.Taken x
to_commit x None p is = refl
to_commit x (Some o) p is = absurd (cc)

-- a job whose command waits, or its reply, is to be committed still
pub waits_still : (x : PlainJob) (before : Option outcome_type.Outcome) (u v : PlainUnit) (made : PlainJobInHand)
    → is_some before ≡ false → calls.Waits u x v ⊎ calls.Withholds u x v → made ≡ job_with x None
    → Commits (hand_with x before) u false v (hand_with made.job made.outcome)
waits_still x None u v made not_over (inl waits) same =
    inl (record {
      unit = waits.same;
      hand = ap (λ (y : PlainJobInHand). hand_with y.job y.outcome) same;
      entry = waits.entry;
      waits = waits.waits;
    })
waits_still x None u v made not_over (inr withholds) same =
    inr (record {
      reply = withholds.reply;
      does = λ k. record {
        asks = (withholds.entry, withholds.ready, withholds.replies, withholds.waits);
        is = withholds.steps.is;
      };
      hand = ap (λ (y : PlainJobInHand). hand_with y.job y.outcome) same;
    })
waits_still x (Some o) u v made not_over waits same = absurd (false≢true (sym not_over))

-- by whether its commit is over
pub commits_or_waits : (x : PlainJob) (before : Option outcome_type.Outcome) (u v : PlainUnit) (made : PlainJobInHand) (b : Bool)
    → is_some before ≡ false
    → (IsTrue b → (o : outcome_type.Outcome) × Ends u x o v × (made ≡ job_with x (Some o)))
    → (IsFalse b → (calls.Waits u x v ⊎ calls.Withholds u x v) × (made ≡ job_with x None))
    → Commits (hand_with x before) u b v (hand_with made.job made.outcome)
commits_or_waits x before u v made true not_over ran_so waits =
    let (what, ran, same) = ran_so refl in taken x before u v what made not_over ran same
commits_or_waits x before u v made false not_over ran_so waits =
    let (still, same) = waits refl in waits_still x before u v made not_over still same

-- what puts the job aside, by a seat
put_aside : (k : ℕ) (x : PlainJob) (u v : PlainUnit) (g : Hand) → Commits (Hand.Taken x) u false v g → PutsAside k x u v
put_aside k x u v g (inl s) = inl (record { asks = (s.entry, s.waits); is = s.unit })
put_aside k x u v g (inr s) = inr (s.reply, s.does k)

-- the job goes behind those that wait
pub deferred : (h g : Hand) (x : PlainJob) (u v : PlainUnit) (aside aside' : Jobs) → g ≡ Hand.Taken x → Commits h u false v g
    → aside' ≡ with_more (x ∷ []) aside → CommitsOrDefers h u aside true v Hand.Empty aside'
deferred Hand.Empty g x u v aside aside' there s more = let e = sym there ∙ s.1 in absurd (cc)
deferred (Hand.Taken y) g x u v aside aside' there s more =
    let e : Hand.Taken x ≡ Hand.Taken y = sym there ∙ still_taken y u v g s in
    let one : x ≡ y = cc in
    inr (λ k. (put_aside k y u v g s, refl, more ∙ ap (λ (z : PlainJob). with_more (z ∷ []) aside) one))
deferred (Hand.Done y o) g x u v aside aside' there s more = let e = sym there ∙ s.1 in absurd (cc)
deferred (Hand.Answered unit_index t) g x u v aside aside' there s more = let e = sym there ∙ s.1 in absurd (cc)

-- a visit is a mark or a look, whichever it was
marks_unit : (inventory : PlainInventory) (f : Opened) (unit_index : ℕ) (kind : Kind) (u : PlainUnit) (out : Jobs) (what : Visited)
    (v : PlainUnit) (g : Opened) (more : Jobs) → VisitsUnit inventory f unit_index kind u out what v g more
    → MarksUnit inventory f unit_index kind u out v g more
marks_unit inventory f unit_index (Marking m) u out visited.Marked v g more h = inl h
marks_unit inventory f unit_index (Marking m) u out visited.Other v g more h = inr h
marks_unit inventory f unit_index (Marking m) u out visited.Nothing v g more h = absurd h
marks_unit inventory f unit_index (Querying rule) u out visited.Other v g more h = h
marks_unit inventory f unit_index (Querying rule) u out visited.Marked v g more h = absurd h
marks_unit inventory f unit_index (Querying rule) u out visited.Nothing v g more h = absurd h

abbrev pub did : Visited → Bool
did visited.Nothing = false
did visited.Marked = true
did visited.Other = true

marks_next : (inventory : PlainInventory) (f : Opened) (left : List ℕ) (u : PlainUnit) (out : Jobs) (what : Visited)
    (v : PlainUnit) (g : Opened) (more : Jobs) → VisitsNext inventory f left u out what v g more
    → MarksNext inventory f left u out (did what) v g more
marks_next inventory f (unit_index ∷ later) u out visited.Nothing v g more h = h
marks_next inventory f (unit_index ∷ later) u out visited.Marked v g more h =
    marks_unit inventory f unit_index f.function.kind u out visited.Marked v g more h
marks_next inventory f (unit_index ∷ later) u out visited.Other v g more h =
    marks_unit inventory f unit_index f.function.kind u out visited.Other v g more h
marks_next inventory f [] u out visited.Nothing v g more h = h
marks_next inventory f [] u out visited.Marked v g more h = absurd h
marks_next inventory f [] u out visited.Other v g more h = absurd h

pub marks : (inventory : PlainInventory) (f : Opened) (u : PlainUnit) (out : Jobs) (what : Visited) (b : Bool)
    (v : PlainUnit) (g : Opened) (more : Jobs) → did what ≡ b → Visits inventory f u out what v g more
    → Marks inventory f u out b v g more
marks inventory f u out what b v g more is h =
    subst (λ (c : Bool). Marks inventory f u out c v g more) is (marks_next inventory f f.function.left u out what v g more h)
