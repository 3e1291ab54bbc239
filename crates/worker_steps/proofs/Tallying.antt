-- What a seat's calls do to what was counted for it.
use Rattle.std.proofs.Common.{◌≡◌, ℕ, ◌+◌, Bool, true, false, List, length, Option, Some, None, refl, sym, subst, ap, ◌∙◌, arith, inl, inr, if◌then◌else◌}
use Rattle.std.specs.Option.{option_map}
use Rattle.ring_core.specs.declared.log.Ticket.{Ticket}
use Rattle.unit_model.specs.Jobs.{PlainJob, Jobs}
use Rattle.unit_model.specs.Unit.{PlainUnit}
use Rattle.logical_unit.specs.declared.outcomes.Outcome as answers
use Rattle.logical_unit.specs.declared.outcomes.Outcome.TheVariants as outcome
use Rattle.phases.specs.declared.receipt_or_note.ReceiptOrNote.{ReceiptOrNote}
use Rattle.device_model.specs.Parts.{Slot, Hand}
use Rattle.virtqueue.specs.Queue.{BareQueue}
use Rattle.phases.specs.Parts.{hand_of, hand_with, committing_unit, leaving_unit}
use Rattle.phases.specs.Units.{Commits, Leaves}
use Rattle.phases.specs.Answering.{Answers}
use Rattle.phases.specs.Giving.{is_reply, given_in, given_for}
use Rattle.phases.specs.declared.hand.Hand as declared
use Rattle.phases.specs.declared.hand.Hand.TheVariants as hand
use Rattle.close_audit.specs.Keeping.{KeepsGiven}
use Rattle.close_audit.specs.declared.kept.Kept.{Kept}
use Rattle.close_audit.specs.Undirected.{IsUndirected}
use Rattle.lock_scopes.specs.Ledgers.{receipts_due, receipts_made, receipts_run}
use Rattle.lock_scopes.specs.Joined.{LeavesEnters, RunsNext, LeavesEntersRuns}
use Rattle.lock_scopes.specs.declared.joined_unit.NextJob.{NextJob}
use Rattle.lock_scopes.specs.declared.joined_unit.NextJob.TheVariants.{Listed, Taken, Committed}
use Rattle.worker_steps.specs.Tallying.{kept_by, Tallies}
use Rattle.worker_steps.specs.Inner.Tallying.{HasNoJob}

-- a hand is to give a receipt only where its job's commit is over
abbrev HasNone : Hand → Type 0
HasNone h = (x : PlainJob) (o : Option answers.Outcome) → h ≡ hand_with x o → o ≡ None

none_due : (h : declared.Hand) → HasNone (hand_of h) → receipts_due h ≡ 0
none_due hand.Empty none = refl
none_due (hand.Answered unit_index t) none = refl
none_due (hand.Job held) none = by_outcome held.outcome (none held.job held.outcome refl)
  where
    by_outcome : (o : Option answers.Outcome) → o ≡ None → receipts_due (hand.Job (record held { outcome = o })) ≡ 0
    by_outcome None e = refl
    by_outcome (Some o) e = cc

empty_none : (h : Hand) → h ≡ Hand.Empty → HasNone h
empty_none h e x None is = refl
empty_none h e x (Some o) is = cc

answered_none : (h : Hand) (unit_index : ℕ) (t : Ticket) → h ≡ Hand.Answered unit_index t → HasNone h
answered_none h unit_index t e x None is = refl
answered_none h unit_index t e x (Some o) is = cc

taken_none : (h : Hand) (y : PlainJob) → h ≡ Hand.Taken y → HasNone h
taken_none h y e x None is = refl
taken_none h y e x (Some o) is = cc

-- an empty hand has nothing to give
pub empty_due : (h : declared.Hand) → hand_of h ≡ Hand.Empty → receipts_due h ≡ 0
empty_due h e = none_due h (empty_none (hand_of h) e)

-- nor has one with a job that is to be committed
pub taken_due : (h : declared.Hand) (x : PlainJob) → hand_of h ≡ Hand.Taken x → receipts_due h ≡ 0
taken_due h x e = none_due h (taken_none (hand_of h) x e)

is_taken : (h : Hand) (at : ℕ) → committing_unit h ≡ Some at → (x : PlainJob) × (h ≡ Hand.Taken x)
is_taken Hand.Empty at e = cc
is_taken (Hand.Taken x) at e = (x, refl)
is_taken (Hand.Done x o) at e = cc
is_taken (Hand.Answered unit_index t) at e = cc

is_answered : (h : Hand) (at : ℕ) → leaving_unit h ≡ Some at → (unit_index : ℕ) × (t : Ticket) × (h ≡ Hand.Answered unit_index t)
is_answered Hand.Empty at e = cc
is_answered (Hand.Taken x) at e = cc
is_answered (Hand.Done x o) at e = cc
is_answered (Hand.Answered unit_index t) at e = (unit_index, t, refl)

-- one that is to be committed at a unit
pub committing_due : (h : declared.Hand) (at : ℕ) → committing_unit (hand_of h) ≡ Some at → receipts_due h ≡ 0
committing_due h at e = let (x, is) = is_taken (hand_of h) at e in taken_due h x is

-- one whose task is to leave
pub leaving_due : (h : declared.Hand) (at : ℕ) → leaving_unit (hand_of h) ≡ Some at → receipts_due h ≡ 0
leaving_due h at e = let (unit_index, t, is) = is_answered (hand_of h) at e in none_due h (answered_none (hand_of h) unit_index t is)

left_none : (h : Hand) (at : ℕ) (u : PlainUnit) (out : Jobs) (b : Bool) (v : PlainUnit) (h' : Hand) (out' : Jobs)
    → leaving_unit h ≡ Some at → Leaves h u out b v h' out' → HasNone h'
left_none (Hand.Answered unit_index t) at u out true v h' out' e did = empty_none h' (did 0).1
left_none (Hand.Answered unit_index t) at u out false v h' out' e (same, jobs, inl stays) = answered_none h' unit_index t stays.1
left_none (Hand.Answered unit_index t) at u out false v h' out' e (same, jobs, inr gone) = empty_none h' gone.1
left_none Hand.Empty at u out b v h' out' e did = cc
left_none (Hand.Taken x) at u out b v h' out' e did = cc
left_none (Hand.Done x o) at u out b v h' out' e did = cc

-- and then, too
pub left_due : (h h' : declared.Hand) (at : ℕ) (u : PlainUnit) (out : Jobs) (b : Bool) (v : PlainUnit) (out' : Jobs)
    → leaving_unit (hand_of h) ≡ Some at → Leaves (hand_of h) u out b v (hand_of h') out' → receipts_due h' ≡ 0
left_due h h' at u out b v out' e did = none_due h' (left_none (hand_of h) at u out b v (hand_of h') out' e did)

made_due : (h : Hand) (at : ℕ) (u : PlainUnit) (b : Bool) (v : PlainUnit) (h' : declared.Hand) → committing_unit h ≡ Some at
    → Commits h u b v (hand_of h') → receipts_due h' ≡ receipts_made b h'
made_due (Hand.Taken x) at u true v h' e did = refl
made_due (Hand.Taken x) at u false v h' e (inl waits) = taken_due h' x waits.hand
made_due (Hand.Taken x) at u false v h' e (inr withholds) = taken_due h' x withholds.hand
made_due Hand.Empty at u b v h' e did = cc
made_due (Hand.Done x o) at u b v h' e did = cc
made_due (Hand.Answered unit_index t) at u b v h' e did = cc

-- a commit counts the receipt that it leaves in the hand
pub commit_tallies : (lost : Option Ticket) (n n' : ℕ) (kept : Kept) (h h' : declared.Hand) (at : ℕ) (u : PlainUnit) (b : Bool)
    (v : PlainUnit) → committing_unit (hand_of h) ≡ Some at → Commits (hand_of h) u b v (hand_of h')
    → n' ≡ n + receipts_made b h' → Tallies lost n kept h → Tallies lost n' kept h'
commit_tallies None n n' kept h h' at u b v e did counted even =
    omega (arith, even, counted, committing_due h at e, made_due (hand_of h) at u b v h' e did)
commit_tallies (Some t) n n' kept h h' at u b v e did counted even = refl

some_is : {X : Type 0} {x y : X} → Some x ≡ Some y → x ≡ y
some_is e = cc

kept_more : (o : answers.Outcome) (t : Ticket) (kept kept' : Kept) → KeepsGiven kept (given_for t o) kept'
    → kept_by kept' ≡ kept_by kept + (if is_reply (Some o) then 1 else 0)
kept_more (outcome.Reply receipt) t kept kept' keeps = keeps.0.one_more
kept_more (outcome.Aborted why) t kept kept' keeps = omega (arith, ap length keeps.0)
kept_more outcome.Busy t kept kept' keeps = omega (arith, ap length keeps.0)
kept_more outcome.Unknown t kept kept' keeps = omega (arith, ap length keeps.0)

given_more : (h : declared.Hand) (g : ReceiptOrNote) (kept kept' : Kept) → given_in h ≡ Some g → KeepsGiven kept g kept'
    → kept_by kept' ≡ kept_by kept + receipts_due h
given_more hand.Empty g kept kept' e keeps = cc
given_more (hand.Answered unit_index t) g kept kept' e keeps = cc
given_more (hand.Job held) g kept kept' e keeps = by_outcome held.outcome e
  where
    by_outcome : (o : Option answers.Outcome) → option_map (given_for held.job.chain.ticket) o ≡ Some g
        → kept_by kept' ≡ kept_by kept + (if is_reply o then 1 else 0)
    by_outcome None e = cc
    by_outcome (Some o) e = kept_more o held.job.chain.ticket kept kept' (subst (λ z. KeepsGiven kept z kept') (sym (some_is e)) keeps)

-- what the job in a hand gives is no note Direct
pub given_undirected : (h : declared.Hand) (g : ReceiptOrNote) → given_in h ≡ Some g → IsUndirected g
given_undirected hand.Empty g e = cc
given_undirected (hand.Answered unit_index t) g e = cc
given_undirected (hand.Job held) g e = by_outcome held.outcome e
  where
    of_outcome : (o : answers.Outcome) → IsUndirected (given_for held.job.chain.ticket o)
    of_outcome (outcome.Reply receipt) = tt
    of_outcome (outcome.Aborted why) = λ e. cc
    of_outcome outcome.Busy = λ e. cc
    of_outcome outcome.Unknown = λ e. cc

    by_outcome : (o : Option answers.Outcome) → option_map (given_for held.job.chain.ticket) o ≡ Some g → IsUndirected g
    by_outcome None e = cc
    by_outcome (Some o) e = subst IsUndirected (some_is e) (of_outcome o)

answers_none : (h : Hand) (q : BareQueue) (m : List ℕ) (r : BareQueue) (n : List ℕ) (h' : Hand) → Answers h q m true r n h' → HasNone h'
answers_none (Hand.Done x o) q m r n h' (did, is) = answered_none h' x.unit x.chain.ticket is
answers_none Hand.Empty q m r n h' did = absurd did
answers_none (Hand.Taken x) q m r n h' did = absurd did
answers_none (Hand.Answered unit_index t) q m r n h' did = absurd did

-- an answer gives the receipt that the hand had
pub answer_tallies : (lost : Option Ticket) (counted : ℕ) (kept kept' : Kept) (h h' : declared.Hand) (g : ReceiptOrNote)
    (q : BareQueue) (m : List ℕ) (r : BareQueue) (n : List ℕ) → Answers (hand_of h) q m true r n (hand_of h') → given_in h ≡ Some g
    → KeepsGiven kept g kept' → Tallies lost counted kept h → Tallies lost counted kept' h'
answer_tallies None counted kept kept' h h' g q m r n did is keeps even =
    omega (arith, even, given_more h g kept kept' is keeps, none_due h' (answers_none (hand_of h) q m r n (hand_of h') did))
answer_tallies (Some t) counted kept kept' h h' g q m r n did is keeps even = refl

-- nothing was counted, and the hand has as much to give as it had
pub tallies_on : (lost : Option Ticket) (n n' : ℕ) (kept kept' : Kept) (h h' : declared.Hand) → n' ≡ n + 0 → kept_by kept' ≡ kept_by kept
    → receipts_due h' ≡ receipts_due h → Tallies lost n kept h → Tallies lost n' kept' h'
tallies_on None n n' kept kept' h h' counted same due even = omega (arith, even, counted, same, due)
tallies_on (Some t) n n' kept kept' h h' counted same due even = refl

no_job_due : (h : declared.Hand) → HasNoJob h → receipts_due h ≡ 0
no_job_due hand.Empty none = refl
no_job_due (hand.Job held) none = absurd none
no_job_due (hand.Answered unit_index t) none = refl

left_without : (h : declared.Hand) (u : PlainUnit) (out : Jobs) (b : Bool) (v : PlainUnit) (h' : declared.Hand) (out' : Jobs)
    → HasNoJob h → Leaves (hand_of h) u out b v (hand_of h') out' → receipts_due h' ≡ 0
left_without hand.Empty u out true v h' out' none did = absurd did
left_without hand.Empty u out false v h' out' none did = empty_due h' did.1
left_without (hand.Job held) u out b v h' out' none did = absurd none
left_without (hand.Answered unit_index t) u out b v h' out' none did =
    none_due h' (left_none (Hand.Answered unit_index t) unit_index u out b v (hand_of h') out' refl did)

-- a hand with no job has none to give where its task left and a request entered
pub turn_tallies : (lost : Option Ticket) (n n' : ℕ) (kept : Kept) (h : declared.Hand) (s : Slot) (u : PlainUnit) (out : Jobs)
    (v : PlainUnit) (h' : declared.Hand) (s' : Slot) (out' : Jobs) → HasNoJob h
    → LeavesEnters (hand_of h) s u out v (hand_of h') s' out' → n' ≡ n + 0 → Tallies lost n kept h → Tallies lost n' kept h'
turn_tallies None n n' kept h s u out v h' s' out' none e counted even =
    omega (arith, even, counted, no_job_due h none, left_without h u out e.left e.between h' e.listed none e.leaves)
turn_tallies (Some t) n n' kept h s u out v h' s' out' none e counted even = refl

run_due : (at : ℕ) (next : NextJob) (h : declared.Hand) (u : PlainUnit) (out : Jobs) (v : PlainUnit) (h' : declared.Hand) (out' : Jobs)
    → receipts_due h ≡ 0 → RunsNext at h u out next v h' out' → receipts_due h' ≡ receipts_run next h'
run_due at Listed h u out v h' out' none e = ap receipts_due e.2 ∙ none
run_due at Taken h u out v h' out' none e = taken_due h' e.1.job e.1.takes
run_due at Committed h u out v h' out' none e = refl

-- nor where a job was run behind that, but for the receipt that its Commit left
pub run_tallies : (at : ℕ) (lost : Option Ticket) (n n' : ℕ) (kept : Kept) (h : declared.Hand) (s : Slot) (u : PlainUnit) (out : Jobs)
    (next : NextJob) (v : PlainUnit) (h' : declared.Hand) (s' : Slot) (out' : Jobs) → HasNoJob h
    → LeavesEntersRuns at h s u out next v h' s' out' → n' ≡ n + receipts_run next h' → Tallies lost n kept h → Tallies lost n' kept h'
run_tallies at None n n' kept h s u out next v h' s' out' none e counted even =
    let t = e.turns in
    let left = left_without h u out t.left t.between e.hand t.listed none t.leaves in
    omega (arith, even, counted, no_job_due h none, run_due at next e.hand e.between e.listed v h' out' left e.runs)
run_tallies at (Some t) n n' kept h s u out next v h' s' out' none e counted even = refl
