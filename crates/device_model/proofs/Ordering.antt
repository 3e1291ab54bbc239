-- Commands of one unit run in the order in which callers saw them end.
use Rattle.std.proofs.Common.{◌≡◌, ℕ, ◌+◌, ◌≤◌, List, [], ◌∷◌, Option, Some, refl, sym, ◌∙◌, ap, subst, arith, inl, inr}
use Rattle.std.specs.List.{sum_by}
use Rattle.std.proofs.lemmas.List.Sums.{sum_by-cons}
use Rattle.command_model.specs.PlainReply.{PlainReply}
use Rattle.ring_core.specs.declared.log.Ticket.{Ticket}
use Rattle.unit_model.specs.Steps.{Step}
use Rattle.unit_model.specs.Jobs.{PlainJob}
use Rattle.device_model.specs.Parts.{PlainFetch}
use Rattle.device_model.specs.World.{PlainWorld, Opens}
use Rattle.device_model.specs.Transitions.{Transition}
use Rattle.device_model.specs.Happens.{Leads}
use Rattle.device_model.specs.Places.{only}
use Rattle.device_model.specs.Weights.{fetches, directs, answers}
use Rattle.device_model.specs.Inner.Weights.{enters}
use Rattle.device_model.specs.Happened.{Happened, IsFetch, IsAnswer}
use Rattle.device_model.specs.Inner.Happened.{IsEnter, IsCommit}
use Rattle.device_model.specs.Histories.{step_of, history_of, Stands}
use Rattle.device_model.specs.Ordering.{AreInOrder}
use Rattle.device_model.proofs.Traces.{leads_beginning, beginning_tail, told_on}
use Rattle.device_model.proofs.Steps.{stands_pushed, so_on, so_new, commit_of}
use Rattle.device_model.proofs.Counts.{few_at, only_one, told_counts, enter_counts}
use Rattle.device_model.proofs.Committed.{commit_entered, job_named, has_run, unanswered}

-- what was answered counts
pub answered_counts : (t : Ticket) (ds : List Transition) → Happened (IsAnswer t) ds
    → 1 ≤ sum_by (directs (only t)) ds + sum_by (answers (only t)) ds
answered_counts t [] h = absurd h
answered_counts t (Transition.Direct c o xs ∷ ds) (inl e) =
    let n = only_one t c.ticket e in
    let a = sum_by-cons (directs (only t)) (Transition.Direct c o xs) ds in
    omega (arith, n, a)
answered_counts t (Transition.Answer k x o xs ∷ ds) (inl e) =
    let n = only_one t x.chain.ticket e in
    let a = sum_by-cons (answers (only t)) (Transition.Answer k x o xs) ds in
    omega (arith, n, a)
answered_counts t (d ∷ ds) (inl e) = absurd e
answered_counts t (d ∷ ds) (inr h) =
    let q = answered_counts t ds h in
    let a = sum_by-cons (directs (only t)) d ds in
    let b = sum_by-cons (answers (only t)) d ds in
    omega (arith, q, a, b)

pub fetch_one : (f : PlainFetch) (d : Transition) → IsFetch f d → 1 ≤ fetches (only f.chain.ticket) d
fetch_one f (Transition.Arrive g x) e =
    let n = only_one f.chain.ticket g.chain.ticket (ap (λ z. z.chain.ticket) e) in
    omega (arith, n, sum_by-cons (only f.chain.ticket) g.chain.ticket [])
fetch_one f (Transition.Refuse g a) e =
    let n = only_one f.chain.ticket g.chain.ticket (ap (λ z. z.chain.ticket) e) in
    omega (arith, n, sum_by-cons (only f.chain.ticket) g.chain.ticket [])
fetch_one f (Transition.Open g k) e =
    let n = only_one f.chain.ticket g.chain.ticket (ap (λ z. z.chain.ticket) e) in
    omega (arith, n, sum_by-cons (only f.chain.ticket) g.chain.ticket [])
fetch_one f (Transition.Hold g) e =
    let n = only_one f.chain.ticket g.chain.ticket (ap (λ z. z.chain.ticket) e) in
    omega (arith, n, sum_by-cons (only f.chain.ticket) g.chain.ticket [])
fetch_one f (Transition.UseBuffer g xs) e =
    let n = only_one f.chain.ticket g.chain.ticket (ap (λ z. z.chain.ticket) e) in
    omega (arith, n, sum_by-cons (only f.chain.ticket) g.chain.ticket [])
fetch_one f d e = absurd e

fetch_enters : (p : Ticket → ℕ) (f : PlainFetch) (d : Transition) → IsFetch f d → enters p d ≡ 0
fetch_enters p f (Transition.Arrive g x) e = refl
fetch_enters p f (Transition.Refuse g a) e = refl
fetch_enters p f (Transition.Open g k) e = refl
fetch_enters p f (Transition.Hold g) e = refl
fetch_enters p f (Transition.UseBuffer g xs) e = refl
fetch_enters p f d e = absurd e

-- who is fetched now has entered nowhere yet
unrun : (old : PlainWorld) (f : PlainFetch) (d : Transition) (ds : List Transition) → Opens old → Leads old (d ∷ ds) → IsFetch f d
    → sum_by (enters (only f.chain.ticket)) (d ∷ ds) ≡ 0
unrun old f d ds o l e =
    let t = f.chain.ticket in
    let now = few_at old (d ∷ ds) t o l in
    let then = few_at old ds t o l.0 in
    let few = now.fetched in
    let a = then.entered in
    let one = fetch_one f d e in
    let none = fetch_enters (only t) f d e in
    let u = sum_by-cons (fetches (only t)) d ds in
    let v = sum_by-cons (enters (only t)) d ds in
    omega (arith, few, a, one, none, u, v)

-- who has a Commit in a history entered
run_counts : (old : PlainWorld) (ds : List Transition) (unit_index : ℕ) (t : Ticket) (r : PlainReply) → Opens old → Leads old ds
    → Stands (Step.Commit t r) (history_of unit_index ds) → 1 ≤ sum_by (enters (only t)) ds
run_counts old ds unit_index t r o l h =
    let run = has_run old ds unit_index t r o l h in
    told_counts (IsEnter run.job) (enters (only t)) (λ d e. enter_counts t run.job run.chain d e) ds run.entered

-- who was answered before another is fetched is another
others : (old : PlainWorld) (first : Ticket) (f : PlainFetch) (d : Transition) (ds : List Transition) → Opens old
    → Leads old (d ∷ ds) → IsFetch f d → Happened (IsAnswer first) ds → first ≡ f.chain.ticket → ⊥
others old first f d ds o l e a is =
    let t = f.chain.ticket in
    let told = subst (λ z. Happened (IsAnswer z) ds) is a in
    let n = answered_counts t ds told in
    let then = few_at old ds t o l.0 in
    let now = few_at old (d ∷ ds) t o l in
    let used = then.used in
    let few = now.fetched in
    let one = fetch_one f d e in
    let u = sum_by-cons (fetches (only t)) d ds in
    omega (arith, n, used, few, one, u)

commits_unanswered : (old : PlainWorld) (t : Ticket) (x : PlainJob) (r : PlainReply) (d : Transition) (ds : List Transition) → Opens old
    → Leads old (d ∷ ds) → IsCommit x r d → x.chain.ticket ≡ t
    → 1 ≤ sum_by (directs (only t)) ds + sum_by (answers (only t)) ds → ⊥
commits_unanswered old t x r (Transition.Commit k y q) ds o l e is n =
    unanswered old ds t k y l.1.holds.out o l.0 l.1.holds.seat (ap (λ (z : PlainJob). z.chain.ticket) e.0 ∙ is) n
commits_unanswered old t x r (Transition.Withhold k y q) ds o l e is n =
    unanswered old ds t k y l.1.holds.out o l.0 l.1.holds.seat (ap (λ (z : PlainJob). z.chain.ticket) e.0 ∙ is) n
commits_unanswered old t x r d ds o l e is n = absurd e

-- who was answered doesn't commit again
answered_ran : (old : PlainWorld) (first : Ticket) (unit_index : ℕ) (r : PlainReply) (d : Transition) (ds : List Transition) → Opens old
    → Leads old (d ∷ ds) → Happened (IsAnswer first) ds → step_of unit_index d ≡ Some (Step.Commit first r) → ⊥
answered_ran old first unit_index r d ds o l a e =
    let c = commit_of d unit_index first r e in
    let entered = commit_entered old d ds c.0 r o l c.3 in
    commits_unanswered old first c.0 r d ds o l c.3
    (sym (job_named old ds c.0 o l.0 entered) ∙ c.2) (answered_counts first ds a)

same_commit : (o : Option Step) (t u : Ticket) (r q : PlainReply) → o ≡ Some (Step.Commit t r)
    → o ≡ Some (Step.Commit u q) → t ≡ u
same_commit o t u r q e f = let both : Some (Step.Commit t r) ≡ Some (Step.Commit u q) = (cc) in cc

pub in_order : (old : PlainWorld) (ds : List Transition) → Opens old → Leads old ds → AreInOrder ds
in_order old [] o l first f d past unit_index r q b e a c1 c2 = absurd c1
in_order old (x ∷ ds) o l first f d past unit_index r q (inl g) e a c1 c2 =
    let l2 = leads_beginning old (d ∷ past) (x ∷ ds) (inl g) l in
    let n = run_counts old (x ∷ ds) unit_index f.chain.ticket q o l c2 in
    let z = unrun old f d past o l2 e in
    let same = ap (λ y. sum_by (enters (only f.chain.ticket)) y) g in
    absurd (omega (arith, n, z, same))
in_order old (x ∷ ds) o l first f d past unit_index r q (inr g) e a c1 c2 =
    let new = step_of unit_index x in
    let h = history_of unit_index ds in
    let A = Step.Commit first r in
    let B = Step.Commit f.chain.ticket q in
    let l2 = leads_beginning old (d ∷ past) ds g l.0 in
    elim (stands_pushed new A h c1) [
      | inl e1 ↦ elim (stands_pushed new B h c2) [
        | inl e2 ↦ absurd (others old first f d past o l2 e a (same_commit new first f.chain.ticket r q e1 e2))
        | inr k2 ↦
            let told = told_on (IsAnswer first) past ds (beginning_tail d past ds g) a in
            absurd (answered_ran old first unit_index r x ds o l told e1)
      ]
      | inr k1 ↦ elim (stands_pushed new B h c2) [
        | inl e2 ↦ so_new new B (Stands A) h e2 k1
        | inr k2 ↦ so_on new B (Stands A) h (in_order old ds o l.0 first f d past unit_index r q g e a k1 k2)
      ]
    ]
