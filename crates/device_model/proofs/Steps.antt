-- What stands in a history was done by a transition, and what a transition did stands there.
use Rattle.std.proofs.Common.{◌≡◌, ℕ, ◌≤◌, true, false, eqb, cond, List, [], ◌∷◌, length, Option, Some, None, refl, ap, subst, arith, inl, inr, eq-eqb}
use Rattle.std.specs.Prelude.{◌⊎◌}
use Rattle.std.proofs.lemmas.Bool.{eqb-true}
use Rattle.command_model.specs.PlainReply.{PlainReply}
use Rattle.ring_core.specs.declared.log.Ticket.{Ticket}
use Rattle.unit_model.specs.Tasks.{Entry}
use Rattle.unit_model.specs.Steps.{Step}
use Rattle.unit_model.specs.Jobs.{PlainJob}
use Rattle.task_mgmt.specs.declared.kind.MarkBy.TheVariants.{Abort, Reset}
use Rattle.device_model.specs.Transitions.{Transition}
use Rattle.device_model.specs.Event.Hard.{hard_code}
use Rattle.device_model.specs.Happened.{Happened, IsBeginning}
use Rattle.device_model.specs.Inner.Happened.{IsEnter, IsFull, IsCommit, IsBusy}
use Rattle.device_model.specs.Histories.{at_index, step_of, pushed, history_of, StandsOn, Stands}

some_is : {X : Type 0} {x y : X} → Some x ≡ Some y → x ≡ y
some_is e = cc

nothing : {X : Type 0} {x : X} → None ≡ Some x → ⊥
nothing e = cc

-- the step is taken at its own index
at_index_is : (unit_index k : ℕ) (s r : Step) → at_index unit_index k s ≡ Some r → (k ≡ unit_index) × (Some s ≡ Some r)
at_index_is unit_index k s r e =
    (elim (eqb k unit_index) as (λ b. eqb k unit_index ≡ b → cond b (Some s) None ≡ Some r → (k ≡ unit_index) × (Some s ≡ Some r)) [
      | true ↦ λ t q. (eqb-true k unit_index t, q)
      | false ↦ λ t q. absurd (nothing q)
    ]) refl e

pub at_own : (unit_index k : ℕ) (s : Step) → k ≡ unit_index → at_index unit_index k s ≡ Some s
at_own unit_index k s e = ap (λ b. cond b (Some s) None) (eq-eqb k unit_index e)

pub at_other_index : (unit_index k : ℕ) (s : Step) → eqb k unit_index ≡ false → at_index unit_index k s ≡ None
at_other_index unit_index k s e = ap (λ b. cond b (Some s) None) e

-- the step that a transition adds to some history, and the index of that
abbrev pub step_in : Transition → Option Step
step_in (Transition.Run x) = Some (Step.Enter x.entry)
step_in (Transition.Park x) = Some (Step.Enter x.entry)
step_in (Transition.EnterFull x) = Some (Step.Full x.entry.ticket)
step_in (Transition.Commit k x r) = Some (Step.Commit x.entry.ticket r)
step_in (Transition.Withhold k x r) = Some (Step.Commit x.entry.ticket r)
step_in (Transition.CommitBusy k x) = Some (Step.Busy x.entry.ticket)
step_in (Transition.Leave k i t jobs) = Some (Step.Leave t)
step_in (Transition.Mark t p (Abort rule) jobs) = Some (Step.Abort rule)
step_in (Transition.Mark t p (Reset c) jobs) = Some (Step.Reset c)
step_in (Transition.Hard p jobs) = Some (Step.Reset hard_code)
step_in (Transition.Resize unit_index blocks) = Some (Step.Resize blocks)
step_in d = None

abbrev pub index_in : Transition → ℕ
index_in (Transition.Run x) = x.unit
index_in (Transition.Park x) = x.unit
index_in (Transition.EnterFull x) = x.unit
index_in (Transition.Commit k x r) = x.unit
index_in (Transition.Withhold k x r) = x.unit
index_in (Transition.CommitBusy k x) = x.unit
index_in (Transition.Leave k i t jobs) = i
index_in (Transition.Mark t p m jobs) = p.unit
index_in (Transition.Hard p jobs) = p.unit
index_in (Transition.Resize unit_index blocks) = unit_index
index_in d = 0

pub step_is : (unit_index : ℕ) (d : Transition) (r : Step) → step_of unit_index d ≡ Some r
    → (index_in d ≡ unit_index) × (step_in d ≡ Some r)
step_is unit_index (Transition.Run x) r e = at_index_is unit_index x.unit (Step.Enter x.entry) r e
step_is unit_index (Transition.Park x) r e = at_index_is unit_index x.unit (Step.Enter x.entry) r e
step_is unit_index (Transition.EnterFull x) r e = at_index_is unit_index x.unit (Step.Full x.entry.ticket) r e
step_is unit_index (Transition.Commit k x q) r e = at_index_is unit_index x.unit (Step.Commit x.entry.ticket q) r e
step_is unit_index (Transition.Withhold k x q) r e = at_index_is unit_index x.unit (Step.Commit x.entry.ticket q) r e
step_is unit_index (Transition.CommitBusy k x) r e = at_index_is unit_index x.unit (Step.Busy x.entry.ticket) r e
step_is unit_index (Transition.Leave k i t jobs) r e = at_index_is unit_index i (Step.Leave t) r e
step_is unit_index (Transition.Mark t p (Abort rule) jobs) r e = at_index_is unit_index p.unit (Step.Abort rule) r e
step_is unit_index (Transition.Mark t p (Reset c) jobs) r e = at_index_is unit_index p.unit (Step.Reset c) r e
step_is unit_index (Transition.Hard p jobs) r e = at_index_is unit_index p.unit (Step.Reset hard_code) r e
step_is unit_index (Transition.Resize k blocks) r e = at_index_is unit_index k (Step.Resize blocks) r e
step_is unit_index d r e = absurd (nothing e)

-- What the step of a transition says of the transition

enter_in : (d : Transition) (unit_index : ℕ) (e : Entry) → index_in d ≡ unit_index → step_in d ≡ Some (Step.Enter e)
    → (x : PlainJob) × (x.unit ≡ unit_index) × (x.entry ≡ e) × IsEnter x d
enter_in (Transition.Run x) unit_index e p s = (x, p, (cc), refl)
enter_in (Transition.Park x) unit_index e p s = (x, p, (cc), refl)
enter_in (Transition.Mark t q (Abort rule) jobs) unit_index e p s = absurd (cc)
enter_in (Transition.Mark t q (Reset c) jobs) unit_index e p s = absurd (cc)
enter_in d unit_index e p s = absurd (cc)

pub enter_of : (d : Transition) (unit_index : ℕ) (e : Entry) → step_of unit_index d ≡ Some (Step.Enter e)
    → (x : PlainJob) × (x.unit ≡ unit_index) × (x.entry ≡ e) × IsEnter x d
enter_of d unit_index e s = let q = step_is unit_index d (Step.Enter e) s in enter_in d unit_index e q.0 q.1

commit_in : (d : Transition) (unit_index : ℕ) (t : Ticket) (r : PlainReply) → index_in d ≡ unit_index
    → step_in d ≡ Some (Step.Commit t r) → (x : PlainJob) × (x.unit ≡ unit_index) × (x.entry.ticket ≡ t) × IsCommit x r d
commit_in (Transition.Commit k x q) unit_index t r p s = (x, p, (cc), (refl, (cc)))
commit_in (Transition.Withhold k x q) unit_index t r p s = (x, p, (cc), (refl, (cc)))
commit_in (Transition.Mark u q (Abort rule) jobs) unit_index t r p s = absurd (cc)
commit_in (Transition.Mark u q (Reset c) jobs) unit_index t r p s = absurd (cc)
commit_in d unit_index t r p s = absurd (cc)

pub commit_of : (d : Transition) (unit_index : ℕ) (t : Ticket) (r : PlainReply) → step_of unit_index d ≡ Some (Step.Commit t r)
    → (x : PlainJob) × (x.unit ≡ unit_index) × (x.entry.ticket ≡ t) × IsCommit x r d
commit_of d unit_index t r s = let q = step_is unit_index d (Step.Commit t r) s in commit_in d unit_index t r q.0 q.1

abbrev pub IsLeave : Ticket → Transition → Type 0
IsLeave t (Transition.Leave k unit_index u jobs) = u ≡ t
IsLeave t d = ⊥

leave_in : (d : Transition) (t : Ticket) → step_in d ≡ Some (Step.Leave t) → IsLeave t d
leave_in (Transition.Leave k i u jobs) t s = cc
leave_in (Transition.Mark u q (Abort rule) jobs) t s = absurd (cc)
leave_in (Transition.Mark u q (Reset c) jobs) t s = absurd (cc)
leave_in d t s = absurd (cc)

pub leave_of : (d : Transition) (unit_index : ℕ) (t : Ticket) → step_of unit_index d ≡ Some (Step.Leave t) → IsLeave t d
leave_of d unit_index t s = leave_in d t (step_is unit_index d (Step.Leave t) s).1

-- Histories

pub stands_pushed : (o : Option Step) (s : Step) (h : List Step) → Stands s (pushed o h) → (o ≡ Some s) ⊎ Stands s h
stands_pushed None s h q = inr q
stands_pushed (Some r) s h (inl e) = inl (ap (λ z. Some z) e)
stands_pushed (Some r) s h (inr q) = inr q

pub stands_on : (o : Option Step) (s : Step) (h : List Step) → Stands s h → Stands s (pushed o h)
stands_on None s h q = q
stands_on (Some r) s h q = inr q

pub stands_new : (o : Option Step) (s : Step) (h : List Step) → o ≡ Some s → Stands s (pushed o h)
stands_new None s h e = absurd (nothing e)
stands_new (Some r) s h e = inl (some_is e)

pub so_on : (o : Option Step) (s : Step) (P : List Step → Type 0) (h : List Step) → StandsOn s P h
    → StandsOn s P (pushed o h)
so_on None s P h q = q
so_on (Some r) s P h q = inr q

pub so_new : (o : Option Step) (s : Step) (P : List Step → Type 0) (h : List Step) → o ≡ Some s → P h
    → StandsOn s P (pushed o h)
so_new None s P h e p = absurd (nothing e)
so_new (Some r) s P h e p = inl (some_is e, p)

-- what stands in a history was done at a moment
pub done_at : (unit_index : ℕ) (s : Step) (ds : List Transition) → Stands s (history_of unit_index ds)
    → (d : Transition) × (past : List Transition) × IsBeginning (d ∷ past) ds × (step_of unit_index d ≡ Some s)
done_at unit_index s [] h = absurd h
done_at unit_index s (d ∷ ds) h =
    elim (stands_pushed (step_of unit_index d) s (history_of unit_index ds) h) [
      | inl e ↦ (d, ds, inl refl, e)
      | inr q ↦ let k = done_at unit_index s ds q in (k.0, k.1, inr k.2, k.3)
    ]

-- and so it was told
pub stands_told : (P : Transition → Type 0) (unit_index : ℕ) (s : Step) → ((d : Transition) → step_of unit_index d ≡ Some s → P d)
    → (ds : List Transition) → Stands s (history_of unit_index ds) → Happened P ds
stands_told P unit_index s is [] h = absurd h
stands_told P unit_index s is (d ∷ ds) h =
    elim (stands_pushed (step_of unit_index d) s (history_of unit_index ds) h) [
      | inl e ↦ inl (is d e)
      | inr q ↦ inr (stands_told P unit_index s is ds q)
    ]

-- what was told stands in the history
pub told_stands : (P : Transition → Type 0) (unit_index : ℕ) (s : Step) → ((d : Transition) → P d → step_of unit_index d ≡ Some s)
    → (ds : List Transition) → Happened P ds → Stands s (history_of unit_index ds)
told_stands P unit_index s is [] h = absurd h
told_stands P unit_index s is (d ∷ ds) (inl p) = stands_new (step_of unit_index d) s (history_of unit_index ds) (is d p)
told_stands P unit_index s is (d ∷ ds) (inr h) =
    stands_on (step_of unit_index d) s (history_of unit_index ds) (told_stands P unit_index s is ds h)

enter_new : (x : PlainJob) (d : Transition) → IsEnter x d → step_of x.unit d ≡ Some (Step.Enter x.entry)
enter_new x (Transition.Run y) e =
    subst (λ (z : PlainJob). step_of z.unit (Transition.Run y) ≡ Some (Step.Enter z.entry)) e
    (at_own y.unit y.unit (Step.Enter y.entry) refl)
enter_new x (Transition.Park y) e =
    subst (λ (z : PlainJob). step_of z.unit (Transition.Park y) ≡ Some (Step.Enter z.entry)) e
    (at_own y.unit y.unit (Step.Enter y.entry) refl)
enter_new x d e = absurd e

pub enter_stands : (x : PlainJob) (ds : List Transition) → Happened (IsEnter x) ds
    → Stands (Step.Enter x.entry) (history_of x.unit ds)
enter_stands x ds h = told_stands (IsEnter x) x.unit (Step.Enter x.entry) (enter_new x) ds h

busy_new : (x : PlainJob) (d : Transition) → IsBusy x d → step_of x.unit d ≡ Some (Step.Busy x.entry.ticket)
busy_new x (Transition.CommitBusy k y) e =
    subst (λ (z : PlainJob). step_of z.unit (Transition.CommitBusy k y) ≡ Some (Step.Busy z.entry.ticket)) e
    (at_own y.unit y.unit (Step.Busy y.entry.ticket) refl)
busy_new x d e = absurd e

pub busy_stands : (x : PlainJob) (ds : List Transition) → Happened (IsBusy x) ds
    → Stands (Step.Busy x.entry.ticket) (history_of x.unit ds)
busy_stands x ds h = told_stands (IsBusy x) x.unit (Step.Busy x.entry.ticket) (busy_new x) ds h

full_new : (x : PlainJob) (d : Transition) → IsFull x d → step_of x.unit d ≡ Some (Step.Full x.entry.ticket)
full_new x (Transition.EnterFull y) e =
    subst (λ (z : PlainJob). step_of z.unit (Transition.EnterFull y) ≡ Some (Step.Full z.entry.ticket)) e
    (at_own y.unit y.unit (Step.Full y.entry.ticket) refl)
full_new x d e = absurd e

pub full_stands : (x : PlainJob) (ds : List Transition) → Happened (IsFull x) ds
    → Stands (Step.Full x.entry.ticket) (history_of x.unit ds)
full_stands x ds h = told_stands (IsFull x) x.unit (Step.Full x.entry.ticket) (full_new x) ds h

-- a history only grows
pub length_on : (o : Option Step) (h : List Step) → length h ≤ length (pushed o h)
length_on None h = omega arith
length_on (Some s) h = omega arith
