-- Each chain of a request queue that is used has one answer, which tells what is so.
use Rattle.std.proofs.Common.{◌≡◌, ℕ, ◌+◌, ◌≤◌, List, ◌∷◌, Option, Some, None, refl, sym, ◌∙◌, subst, arith, inl, inr, zero, suc}
use Rattle.std.specs.List.{sum_by}
use Rattle.command_model.specs.PlainReply.{PlainReply}
use Rattle.ring_core.specs.State.{PlainChain}
use Rattle.ring_core.specs.declared.log.Ticket.{Ticket}
use Rattle.unit_model.specs.declared.reason.Reason.{Reason}
use Rattle.unit_model.specs.Tasks.{Entry, task_of}
use Rattle.unit_model.specs.Steps.{Step, alive}
use Rattle.unit_model.specs.Marks.{mark_of}
use Rattle.unit_model.specs.Contents.{MayReply}
use Rattle.unit_model.specs.Lawful.{IsReady}
use Rattle.unit_model.specs.Endings.{Ending}
use Rattle.unit_model.proofs.Marking.{mark_on}
use Rattle.unit_model.specs.Jobs.{PlainJob}
use Rattle.unit_model.specs.Unit.{PlainUnit, Replies}
use Rattle.device_model.specs.Parts.{PlainFetch, Completion, Outcome, Hand}
use Rattle.device_model.specs.World.{PlainWorld, Opens}
use Rattle.device_model.specs.Transitions.{Transition}
use Rattle.device_model.specs.Happens.{world_of, Leads}
use Rattle.device_model.specs.Places.{only}
use Rattle.device_model.specs.Weights.{directs, answers}
use Rattle.device_model.specs.Found.{HandAtUnit}
use Rattle.device_model.proofs.Lists.{same}
use Rattle.device_model.proofs.Working.{all_work}
use Rattle.device_model.specs.Happened.{Happened, IsBeginning, IsFetch, IsAnswer}
use Rattle.device_model.specs.Inner.Happened.{IsEnter, IsCommit, IsAbort}
use Rattle.device_model.specs.Histories.{step_of, pushed, history_of}
use Rattle.unit_model.proofs.Failing.{weaker}
use Rattle.device_model.specs.Entering.{IsSent}
use Rattle.device_model.specs.Answering.{HasEnded, IsTrue, IsAnsweredSo, NeverRan, AreAnswered}
use Rattle.device_model.proofs.Traces.{leads_beginning, beginning_tail, keeps_on, told_on, told_at}
use Rattle.device_model.proofs.Steps.{at_own, stands_on, so_on, so_new, enter_stands, busy_stands, full_stands}
use Rattle.device_model.proofs.Saying.{IsRefused, IsEndedBy, SlotSays}
use Rattle.device_model.proofs.Knowing.{works_at, says_at, entered_sent}
use Rattle.device_model.proofs.Committed.{run_told, never_ran}
use Rattle.device_model.proofs.Counts.{flows_at, few_at, one_is, counted_told, uses_all}

-- how a request ended is still so after one more transition

mark_pushed : (o : Option Step) (t : Ticket) (why : Reason) (h : List Step) → mark_of t h ≡ Some why
    → mark_of t (pushed o h) ≡ Some why
mark_pushed None t why h e = e
mark_pushed (Some s) t why h e = mark_on s t why h e

ended_on : (old : PlainWorld) (x : PlainJob) (e : Ending) (d : Transition) (ds : List Transition) → HasEnded old x e ds
    → HasEnded old x e (d ∷ ds)
ended_on old x (Ending.Replied r) d ds h = (
  h.0,
  h.1,
  so_on (step_of x.unit d) (Step.Commit x.entry.ticket r)
      (λ past. IsReady x.entry.ticket x.entry past × MayReply h.0.opening x.entry past r)
      (history_of x.unit ds) h.2,
)
ended_on old x (Ending.Aborted why) d ds h = (
  stands_on (step_of x.unit d) (Step.Enter x.entry) (history_of x.unit ds) h.0,
  mark_pushed (step_of x.unit d) x.entry.ticket why (history_of x.unit ds) h.1,
)
ended_on old x Ending.Full d ds h = stands_on (step_of x.unit d) (Step.Full x.entry.ticket) (history_of x.unit ds) h
ended_on old x Ending.Busy d ds (inl h) =
    inl (stands_on (step_of x.unit d) (Step.Busy x.entry.ticket) (history_of x.unit ds) h)
ended_on old x Ending.Busy d ds (inr h) = inr (inr h)
ended_on old x Ending.Lost d ds h = h

-- A Commit replies to its job's very task
committing : (old : PlainWorld) (d : Transition) (k : ℕ) (x : PlainJob) (r : PlainReply) (ds : List Transition) → Opens old → Leads old ds
    → (m : HandAtUnit (world_of old ds) k (Hand.Taken x) x.unit) (e : Entry) → IsReady x.entry.ticket e m.unit.steps
    → Replies m.unit e r → step_of x.unit d ≡ Some (Step.Commit x.entry.ticket r)
    → HasEnded old x (Ending.Replied r) (d ∷ ds)
committing old d k x r ds o l m e may replies step =
    let w = world_of old ds in
    let v = m.unit in
    let t = x.entry.ticket in
    let work = all_work w (works_at old ds o l).3 in
    let c = (work.seats k (record { hand = Hand.Taken x; out = m.out }) m.seat).0 in
    let is : c.unit ≡ v = same (sym c.there ∙ m.there) in
    let there = subst (λ (z : PlainUnit). task_of t (alive z.steps) ≡ Some x.entry) is c.alive in
    let one : e ≡ x.entry = same (sym may.is_there ∙ there) in
    let told = ((says_at old ds o l).units x.unit v m.there).0 in
    let so : List Step → Type 0 =
    λ past. IsReady t x.entry past × MayReply told.opened.opening x.entry past r in
    let ready = subst (λ z. IsReady t z v.steps) one may in
    let reply = subst (λ z. MayReply z x.entry v.steps r) told.opening
    (subst (λ z. MayReply v.opening z v.steps r) one (weaker v e r replies)) in
    let before = subst so told.steps (ready, reply) in
    (told.opened, told.there, so_new (step_of x.unit d) (Step.Commit t r) so (history_of x.unit ds) step before)

commits : (old : PlainWorld) (x : PlainJob) (r : PlainReply) (d : Transition) (ds : List Transition) → Opens old
    → Leads old (d ∷ ds) → IsCommit x r d → HasEnded old x (Ending.Replied r) (d ∷ ds)
commits old x r (Transition.Commit k y q) ds o l e =
    let d = Transition.Commit k y q in
    let m = l.1 in
    let step = at_own y.unit y.unit (Step.Commit y.entry.ticket q) refl in
    subst (λ z. HasEnded old z (Ending.Replied r) (d ∷ ds)) e.0
    (subst (λ z. HasEnded old y (Ending.Replied z) (d ∷ ds)) e.1
    (committing old d k y q ds o l.0 m.holds m.may.0 m.may.1 m.may.2 step))
commits old x r (Transition.Withhold k y q) ds o l e =
    let d = Transition.Withhold k y q in
    let m = l.1 in
    let step = at_own y.unit y.unit (Step.Commit y.entry.ticket q) refl in
    subst (λ z. HasEnded old z (Ending.Replied r) (d ∷ ds)) e.0
    (subst (λ z. HasEnded old y (Ending.Replied z) (d ∷ ds)) e.1
    (committing old d k y q ds o l.0 m.holds m.may.0 m.may.1 m.may.2 step))
commits old x r d ds o l e = absurd e

-- what was aborted had entered, and its first mark is the reason
aborting : (old : PlainWorld) (k : ℕ) (x : PlainJob) (why : Reason) (ds : List Transition) → Opens old
    → Leads old (Transition.CommitAborted k x why ∷ ds) → HasEnded old x (Ending.Aborted why) (Transition.CommitAborted k x why ∷ ds)
aborting old k x why ds o l =
    let m = l.1 in
    let says = says_at old ds o l.0 in
    let seat = says.seats k (record { hand = Hand.Taken x; out = m.holds.out }) m.holds.seat in
    let told = (says.units x.unit m.holds.unit m.holds.there).0 in
    (enter_stands x ds seat.0, subst (λ h. mark_of x.entry.ticket h ≡ Some why) told.steps m.marked)

aborts : (old : PlainWorld) (x : PlainJob) (why : Reason) (d : Transition) (ds : List Transition) → Opens old
    → Leads old (d ∷ ds) → IsAbort x why d → HasEnded old x (Ending.Aborted why) (d ∷ ds)
aborts old x why (Transition.CommitAborted k y q) ds o l e =
    let d = Transition.CommitAborted k y q in
    subst (λ z. HasEnded old z (Ending.Aborted why) (d ∷ ds)) e.0
    (subst (λ z. HasEnded old y (Ending.Aborted z) (d ∷ ds)) e.1 (aborting old k y q ds o l))
aborts old x why d ds o l e = absurd e

-- what is so once a transition was done is so from then on
from_then : (old : PlainWorld) (x : PlainJob) (e : Ending) (P : Transition → Type 0) (ds : List Transition) → Leads old ds
    → ((d : Transition) (past : List Transition) → Leads old (d ∷ past) → P d → HasEnded old x e (d ∷ past)) → Happened P ds
    → HasEnded old x e ds
from_then old x e P ds l f h =
    let q = told_at P ds h in
    let b = leads_beginning old (q.0 ∷ q.1) ds q.2 l in
    keeps_on (λ z. HasEnded old x e z) (λ d z p. ended_on old x e d z p) (q.0 ∷ q.1) ds q.2 (f q.0 q.1 b q.3)

-- the outcome in a hand is true of its job
hand_true : (old : PlainWorld) (x : PlainJob) (out : Outcome) (ds : List Transition) → Opens old → Leads old ds
    → (sent : IsSent old.inventory ds x) → Happened (IsEnter x) ds → IsEndedBy x out ds → IsTrue old sent.fetch out ds
hand_true old x (Outcome.Ended (Ending.Replied r)) ds o l sent entered h =
    let told = run_told old ds x r o l entered h in
    let now = from_then old x (Ending.Replied r) (IsCommit x r) ds l (λ d past b e. commits old x r d past o b e) told in
    (x, sent.job, now)
hand_true old x (Outcome.Ended (Ending.Aborted why)) ds o l sent entered h =
    let e = Ending.Aborted why in
    let now = from_then old x e (IsAbort x why) ds l (λ d past b p. aborts old x why d past o b p) h in
    (x, sent.job, now)
hand_true old x (Outcome.Ended Ending.Busy) ds o l sent entered h = (x, sent.job, inl (busy_stands x ds h))
hand_true old x (Outcome.Ended Ending.Full) ds o l sent entered h = absurd h
hand_true old x (Outcome.Ended Ending.Lost) ds o l sent entered h = absurd h
hand_true old x (Outcome.Decided a) ds o l sent entered h = absurd h

-- an outcome is true of the Fetch of a chain
abbrev IsTrueOf : PlainWorld → PlainChain → Outcome → List Transition → Type 0
IsTrueOf old c out ds = (f : PlainFetch) × Happened (IsFetch f) ds × (f.chain ≡ c) × IsTrue old f out ds

-- and so is that in a slot
slot_true : (old : PlainWorld) (c : PlainChain) (out : Outcome) (ds : List Transition) → IsRefused old.inventory c out ds
    → IsTrueOf old c out ds
slot_true old c (Outcome.Decided a) ds h = (h.0, h.1, h.2, h.3)
slot_true old c (Outcome.Ended Ending.Full) ds h =
    let sent = h.2 in
    (sent.fetch, sent.fetched, sent.job.chain ∙ h.1, (h.0, sent.job, full_stands h.0 ds h.3))
slot_true old c (Outcome.Ended Ending.Busy) ds h =
    let sent = h.2 in
    (sent.fetch, sent.fetched, sent.job.chain ∙ h.1, (h.0, sent.job, inr h.3))
slot_true old c (Outcome.Ended (Ending.Replied r)) ds h = absurd h
slot_true old c (Outcome.Ended (Ending.Aborted why)) ds h = absurd h
slot_true old c (Outcome.Ended Ending.Lost) ds h = absurd h

directs_so : (old : PlainWorld) (c : PlainChain) (out : Outcome) (xs : Completion) (ds : List Transition) → Opens old
    → Leads old (Transition.Direct c out xs ∷ ds) → IsAnsweredSo old ds c out xs
directs_so old c out xs ds o l =
    let m = l.1 in
    let says = (says_at old ds o l.0).slots c.ticket.queue m.queue m.there in
    let is = slot_true old c out ds (subst (SlotSays old.inventory ds) m.ready says) in
    record {
      fetch = is.0;
      fetched = is.1;
      chain = is.2;
      queue = m.queue;
      there = m.there;
      writes = m.writes;
      truth = is.3;
    }

answers_so : (old : PlainWorld) (k : ℕ) (x : PlainJob) (out : Outcome) (xs : Completion) (ds : List Transition) → Opens old
    → Leads old (Transition.Answer k x out xs ∷ ds) → IsAnsweredSo old ds x.chain out xs
answers_so old k x out xs ds o l =
    let m = l.1 in
    let says = ((says_at old ds o l.0).seats k (record { hand = Hand.Done x out; out = m.out }) m.seat).0 in
    let sent = entered_sent old ds x o l.0 says.0 in
    record {
      fetch = sent.fetch;
      fetched = sent.fetched;
      chain = sent.job.chain;
      queue = m.queue;
      there = m.there;
      writes = m.writes;
      truth = hand_true old x out ds o l.0 sent says.0 says.1;
    }

-- Who was told that its task was aborted never ran

aborted_never : (old : PlainWorld) (k : ℕ) (x : PlainJob) (why : Reason) (xs : Completion) (past ds : List Transition)
    → Opens old → Leads old ds → IsBeginning (Transition.Answer k x (Outcome.Ended (Ending.Aborted why)) xs ∷ past) ds
    → NeverRan x.chain.ticket ds
aborted_never old k x why xs past ds o l b =
    let out = Outcome.Ended (Ending.Aborted why) in
    let d = Transition.Answer k x out xs in
    let then = leads_beginning old (d ∷ past) ds b l in
    let m = then.1 in
    let says = ((says_at old past o then.0).seats k (record { hand = Hand.Done x out; out = m.out }) m.seat).0 in
    never_ran old x why ds o l (told_on (IsAbort x why) past ds (beginning_tail d past ds b) says.1)

-- what is used was answered

direct_is : (t : Ticket) (d : Transition) → 1 ≤ directs (only t) d → IsAnswer t d
direct_is t (Transition.Direct c out xs) h = one_is t c.ticket (omega (arith, h))
direct_is t d h = absurd (omega (arith, h))

pub answer_is : (t : Ticket) (d : Transition) → 1 ≤ answers (only t) d → IsAnswer t d
answer_is t (Transition.Answer k x out xs) h = one_is t x.chain.ticket (omega (arith, h))
answer_is t d h = absurd (omega (arith, h))

some_answer : (t : Ticket) (ds : List Transition) → 1 ≤ sum_by (directs (only t)) ds + sum_by (answers (only t)) ds
    → Happened (IsAnswer t) ds
some_answer t ds h =
    (elim (sum_by (directs (only t)) ds) as (λ n. sum_by (directs (only t)) ds ≡ n → Happened (IsAnswer t) ds) [
      | zero ↦ λ e. counted_told (answers (only t)) (IsAnswer t) (answer_is t) ds (omega (arith, e, h))
      | suc n ↦ λ e. counted_told (directs (only t)) (IsAnswer t) (direct_is t) ds (omega (arith, e))
    ]) refl

pub are_answered : (old : PlainWorld) (ds : List Transition) → Opens old → Leads old ds → AreAnswered old ds (world_of old ds)
are_answered old ds o l =
    let f = flows_at old ds o l in
    record {
      used = f.used;
      request = λ t le. f.used (only t) ∙ uses_all old t ds le o l;
      once = λ t.
          let n = few_at old ds t o l in
          let a = n.used in
          let b = n.fetched in
          omega (arith, a, b);
      told = λ t le u.
          let a = f.used (only t) in
          let b = uses_all old t ds le o l in
          some_answer t ds (omega (arith, a, b, u));
      direct = λ c out xs past b.
          directs_so old c out xs past o (leads_beginning old (Transition.Direct c out xs ∷ past) ds b l);
      answer = λ k x out xs past b.
          answers_so old k x out xs past o (leads_beginning old (Transition.Answer k x out xs ∷ past) ds b l);
      aborted = λ k x why xs past b. aborted_never old k x why xs past ds o l b;
    }
