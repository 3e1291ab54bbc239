-- Whose command ran: the job of a Commit in a history.
use Rattle.std.proofs.Common.{◌≡◌, ℕ, ◌+◌, ◌≤◌, ◌||◌, true, List, [], ◌∷◌, Option, Some, None, is_some, sym, ◌∙◌, ap, subst, arith, inl, inr}
use Rattle.std.specs.Prelude.{slice_get}
use Rattle.std.specs.List.{sum_by}
use Rattle.command_model.specs.PlainReply.{PlainReply}
use Rattle.ring_core.specs.State.{PlainChain}
use Rattle.ring_core.specs.declared.log.Ticket.{Ticket}
use Rattle.unit_model.specs.declared.reason.Reason.{Reason}
use Rattle.unit_model.specs.Steps.{Step, done}
use Rattle.unit_model.specs.Marks.{mark_of, marked}
use Rattle.unit_model.specs.Lawful.{IsLawful}
use Rattle.unit_model.specs.Jobs.{PlainJob}
use Rattle.unit_model.proofs.Tickets.{itself, clash}
use Rattle.unit_model.proofs.Marking.{marked_undone, marked_lasts, done_on}
use Rattle.device_model.specs.Parts.{Hand}
use Rattle.device_model.specs.World.{Seat, PlainWorld, Opens}
use Rattle.device_model.specs.Transitions.{Transition}
use Rattle.device_model.specs.Happens.{world_of, Leads}
use Rattle.device_model.specs.Places.{only}
use Rattle.device_model.specs.Weights.{in_seat, directs, answers}
use Rattle.device_model.specs.Inner.Weights.{jobs}
use Rattle.device_model.specs.Happened.{Happened}
use Rattle.device_model.specs.Inner.Happened.{IsEnter, IsCommit, IsAbort}
use Rattle.device_model.specs.Histories.{step_of, pushed, history_of, Stands}
use Rattle.device_model.specs.Answering.{NeverRan}
use Rattle.device_model.proofs.Sums.{counts_one}
use Rattle.device_model.proofs.Traces.{leads_beginning, beginning_tail, keeps_on, told_on, told_at, told_there}
use Rattle.device_model.proofs.Steps.{done_at, commit_of}
use Rattle.device_model.proofs.Flowing.{tallies}
use Rattle.device_model.proofs.Knowing.{says_at, entered_sent, are_histories}
use Rattle.device_model.proofs.Counts.{flows_at, few_at, only_one, one_entered}

-- a job that is in a hand had entered
pub commit_entered : (old : PlainWorld) (d : Transition) (ds : List Transition) (x : PlainJob) (r : PlainReply) → Opens old
    → Leads old (d ∷ ds) → IsCommit x r d → Happened (IsEnter x) ds
commit_entered old (Transition.Commit k y q) ds x r o l e =
    let m = l.1 in
    let says = ((says_at old ds o l.0).seats k (record { hand = Hand.Taken y; out = m.holds.out }) m.holds.seat).0 in
    subst (λ z. Happened (IsEnter z) ds) e.0 says
commit_entered old (Transition.Withhold k y q) ds x r o l e =
    let m = l.1 in
    let says = ((says_at old ds o l.0).seats k (record { hand = Hand.Taken y; out = m.holds.out }) m.holds.seat).0 in
    subst (λ z. Happened (IsEnter z) ds) e.0 says
commit_entered old d ds x r o l e = absurd e

-- it goes by its chain's ticket
pub job_named : (old : PlainWorld) (ds : List Transition) (x : PlainJob) → Opens old → Leads old ds → Happened (IsEnter x) ds
    → x.entry.ticket ≡ x.chain.ticket
job_named old ds x o l h =
    let sent = entered_sent old ds x o l h in
    sent.job.ticket ∙ ap (λ (c : PlainChain). c.ticket) sent.job.chain

-- the job of a Commit that stands in a history
pub record HasRun (ds : List Transition) (unit_index : ℕ) (t : Ticket) (r : PlainReply) : Type 0 where
  pub job : PlainJob
  pub unit : job.unit ≡ unit_index
  pub ticket : job.entry.ticket ≡ t
  pub chain : job.chain.ticket ≡ t
  pub entered : Happened (IsEnter job) ds
  pub committed : Happened (IsCommit job r) ds

pub has_run : (old : PlainWorld) (ds : List Transition) (unit_index : ℕ) (t : Ticket) (r : PlainReply) → Opens old → Leads old ds
    → Stands (Step.Commit t r) (history_of unit_index ds) → HasRun ds unit_index t r
has_run old ds unit_index t r o l h =
    let q = done_at unit_index (Step.Commit t r) ds h in
    let b = leads_beginning old (q.0 ∷ q.1) ds q.2 l in
    let c = commit_of q.0 unit_index t r q.3 in
    let before = commit_entered old q.0 q.1 c.0 r o b c.3 in
    let entered = told_on (IsEnter c.0) q.1 ds (beginning_tail q.0 q.1 ds q.2) before in
    record {
      job = c.0;
      unit = c.1;
      ticket = c.2;
      chain = sym (job_named old ds c.0 o l entered) ∙ c.2;
      entered = entered;
      committed = told_there (IsCommit c.0 r) q.0 q.1 ds q.2 c.3;
    }

-- a job whose ticket has a Commit committed
pub run_told : (old : PlainWorld) (ds : List Transition) (x : PlainJob) (r : PlainReply) → Opens old → Leads old ds
    → Happened (IsEnter x) ds → Stands (Step.Commit x.entry.ticket r) (history_of x.unit ds) → Happened (IsCommit x r) ds
run_told old ds x r o l entered h =
    let run = has_run old ds x.unit x.entry.ticket r o l h in
    let is = run.chain ∙ job_named old ds x o l entered in
    let one = one_entered old x run.job ds o l is entered run.entered in
    subst (λ z. Happened (IsCommit z r) ds) (sym one) run.committed

-- Who was told that its task was aborted never ran

stands_done : (t : Ticket) (r : PlainReply) (past : List Step) → Stands (Step.Commit t r) past → done t past ≡ true
stands_done t r [] h = absurd h
stands_done t r (s ∷ past) (inl e) =
    subst (λ z. done t (z ∷ past) ≡ true) (sym e) (ap (λ b. b || done t past) (itself t))
stands_done t r (s ∷ past) (inr h) = done_on s t past (stands_done t r past h)

marked_pushed : (s : Option Step) (t : Ticket) (past : List Step) → marked t past ≡ true → marked t (pushed s past) ≡ true
marked_pushed None t past h = h
marked_pushed (Some s) t past h = marked_lasts t (s ∷ []) past h

some_mark : (o : Option Reason) (why : Reason) → o ≡ Some why → is_some o ≡ true
some_mark o why e = ap (λ z. is_some z) e

-- a job that is aborted had entered, and is marked
pub abort_found : (old : PlainWorld) (d : Transition) (ds : List Transition) (x : PlainJob) (why : Reason) → Opens old
    → Leads old (d ∷ ds) → IsAbort x why d
    → Happened (IsEnter x) ds × (marked x.entry.ticket (history_of x.unit ds) ≡ true)
abort_found old (Transition.CommitAborted k y q) ds x why o l e =
    let m = l.1 in
    let says = says_at old ds o l.0 in
    let seat = says.seats k (record { hand = Hand.Taken y; out = m.holds.out }) m.holds.seat in
    let told = (says.units y.unit m.holds.unit m.holds.there).0.steps in
    let mark = subst (λ past. mark_of y.entry.ticket past ≡ Some q) told m.marked in
    subst (λ (z : PlainJob). Happened (IsEnter z) ds × (marked z.entry.ticket (history_of z.unit ds) ≡ true)) e.0
    (seat.0, some_mark (mark_of y.entry.ticket (history_of y.unit ds)) q mark)
abort_found old d ds x why o l e = absurd e

pub never_ran : (old : PlainWorld) (x : PlainJob) (why : Reason) (ds : List Transition) → Opens old → Leads old ds
    → Happened (IsAbort x why) ds → NeverRan x.chain.ticket ds
never_ran old x why ds o l a unit_index r h =
    let q = told_at (IsAbort x why) ds a in
    let on = beginning_tail q.0 q.1 ds q.2 in
    let was = abort_found old q.0 q.1 x why o (leads_beginning old (q.0 ∷ q.1) ds q.2 l) q.3 in
    let entered = told_on (IsEnter x) q.1 ds on was.0 in
    let t = x.entry.ticket in
    let mark = keeps_on (λ z. marked t (history_of x.unit z) ≡ true)
    (λ d z p. marked_pushed (step_of x.unit d) t (history_of x.unit z) p) q.1 ds on was.1 in
    let c = x.chain.ticket in
    let run = has_run old ds unit_index c r o l h in
    let one = one_entered old x run.job ds o l run.chain entered run.entered in
    let unit = sym run.unit ∙ ap (λ (z : PlainJob). z.unit) (sym one) in
    let stands = subst (λ k. Stands (Step.Commit c r) (history_of k ds)) unit h in
    let histories = are_histories old ds o l in
    let u = histories.there x.unit (Step.Commit c r) stands in
    let steps = (histories.told x.unit u.0 u.1).steps in
    let lawful = subst (λ past. IsLawful u.0.opening past) steps (histories.lawful x.unit u.0 u.1) in
    let undone = marked_undone u.0.opening t (history_of x.unit ds) lawful mark in
    let ran = stands_done c r (history_of x.unit ds) stands in
    let named = ap (λ z. done z (history_of x.unit ds)) (job_named old ds x o l entered) in
    clash (sym ran ∙ sym named ∙ undone)

-- Who was answered isn't in a hand that takes it

pub unanswered : (old : PlainWorld) (ds : List Transition) (t : Ticket) (k : ℕ) (x : PlainJob) (out : List PlainJob) → Opens old
    → Leads old ds → slice_get (world_of old ds).seats k ≡ Some (record { hand = Hand.Taken x; out = out })
    → x.chain.ticket ≡ t → 1 ≤ sum_by (directs (only t)) ds + sum_by (answers (only t)) ds → ⊥
unanswered old ds t k x out o l at is n =
    let w = world_of old ds in
    let s : Seat = record { hand = Hand.Taken x; out = out } in
    let one = only_one t x.chain.ticket is in
    let here = counts_one (in_seat (jobs (only t))) k w.seats s at in
    let a = (tallies (only t) ds w (flows_at old ds o l)).jobs in
    let few = few_at old ds t o l in
    let b = few.fetched in
    let c = few.entered in
    let e = few.answered in
    omega (arith, one, here, a, b, c, e, n)
