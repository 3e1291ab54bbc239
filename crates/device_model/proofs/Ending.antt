-- A function is answered once it is over.
use Rattle.std.proofs.Common.{◌≡◌, ℕ, ◌≤◌, List, [], ◌∷◌, length, refl, sym, ◌∙◌, ap, subst, arith, inl, inr}
use Rattle.std.specs.Prelude.{◌↔◌, ◌<◌, Bool, true, false}
use Rattle.scsi_codec.specs.declared.control_queue.FunctionResponse.{FunctionResponse}
use Rattle.scsi_codec.specs.declared.control_queue.FunctionResponse.TheVariants.{Complete, Failure, Succeeded}
use Rattle.ring_core.specs.State.{PlainChain}
use Rattle.ring_core.specs.declared.log.Ticket.{Ticket}
use Rattle.unit_model.specs.declared.rule.Rule.{Rule}
use Rattle.unit_model.specs.Steps.{Step, alive, has_left}
use Rattle.unit_model.specs.Tasks.{Entry}
use Rattle.unit_model.specs.Clearing.{met_by, met_at, AreGone}
use Rattle.unit_model.specs.Seen.{any_met}
use Rattle.unit_model.proofs.Clearing.{each_map}
use Rattle.unit_model.specs.Jobs.{PlainJob}
use Rattle.task_mgmt.specs.Functions.{step_by, response_of}
use Rattle.task_mgmt.specs.declared.kind.Kind.{Kind}
use Rattle.task_mgmt.specs.declared.kind.Kind.TheVariants.{Marking, Querying}
use Rattle.task_mgmt.specs.declared.kind.MarkBy.{MarkBy}
use Rattle.task_mgmt.specs.declared.function.Mark.{Mark as MarkAt}
use Rattle.device_model.specs.Parts.{Completion}
use Rattle.device_model.specs.World.{PlainWorld, Opens}
use Rattle.device_model.specs.Transitions.{Transition}
use Rattle.device_model.specs.Event.Mark.{IsMarking as IsMarkingNow}
use Rattle.device_model.specs.Happens.{Leads, world_of}
use Rattle.device_model.specs.Places.{only}
use Rattle.device_model.specs.Weights.{answers}
use Rattle.device_model.specs.Inner.Weights.{leaves}
use Rattle.device_model.specs.Happened.{Happened, IsBeginning, IsAnswer}
use Rattle.device_model.specs.Histories.{step_of, pushed, history_of}
use Rattle.device_model.specs.Functions.{Among, IsFor, IsMarkedSo, IsClear, IsResponse, IsOver, AreOver}
use Rattle.device_model.proofs.Traces.{leads_beginning, keeps_on, told_there}
use Rattle.device_model.proofs.Steps.{IsLeave, leave_of, done_at, at_own, length_on}
use Rattle.device_model.proofs.Knowing.{says_at}
use Rattle.device_model.proofs.Counts.{few_at, only_one, told_counts, counted_told}
use Rattle.device_model.proofs.Answering.{answer_is}
use Rattle.device_model.proofs.Gone.{met_new, met_on, left_stands}
use Rattle.device_model.proofs.Visits.{Listed, IsMarking, IsAsking, IsUnderWay, was_open, functions_at}

-- Who has left was answered

leave_one : (t : Ticket) (d : Transition) → IsLeave t d → 1 ≤ leaves (only t) d
leave_one t (Transition.Leave k unit_index u jobs) e = let n = only_one t u e in omega (arith, n)
leave_one t d e = absurd e

left_answered : (old : PlainWorld) (ds : List Transition) (unit_index : ℕ) (t : Ticket) → Opens old → Leads old ds
    → has_left t (history_of unit_index ds) ≡ true → Happened (IsAnswer t) ds
left_answered old ds unit_index t o l h =
    let q = done_at unit_index (Step.Leave t) ds (left_stands t (history_of unit_index ds) h) in
    let told = told_there (IsLeave t) q.0 q.1 ds q.2 (leave_of q.0 unit_index t q.3) in
    let n = told_counts (IsLeave t) (leaves (only t)) (leave_one t) ds told in
    let few = (few_at old ds t o l).left in
    counted_told (answers (only t)) (IsAnswer t) (answer_is t) ds (omega (arith, n, few))

clear_of : (old : PlainWorld) (ds : List Transition) (p : MarkAt) → Opens old → Leads old ds
    → AreGone p.place (history_of p.unit ds) → IsClear p ds
clear_of old ds p o l h =
    let hist = history_of p.unit ds in
    each_map (λ e. has_left e.ticket hist ≡ true) (λ e. (has_left e.ticket hist ≡ true) × Happened (IsAnswer e.ticket) ds)
    (met_at p.place hist) (λ e q. (q, left_answered old ds p.unit e.ticket o l q)) h

-- What it responds

abbrev responds : Kind → Bool → Bool → FunctionResponse
responds kind found refused =
    response_of (record { kind = kind; found = found; refused = refused; left = []; waits = [] })

clash : true ≡ false → ⊥
clash e = cc

failed_succeeded : Failure ≡ Succeeded → ⊥
failed_succeeded e = cc

complete_succeeded : Complete ≡ Succeeded → ⊥
complete_succeeded e = cc

complete_failed : Complete ≡ Failure → ⊥
complete_failed e = cc

succeeded_failed : Succeeded ≡ Failure → ⊥
succeeded_failed e = cc

succeeds_where : (kind : Kind) (found refused : Bool) → (found ≡ true → IsAsking kind)
    → (refused ≡ true → IsMarking kind) → (responds kind found refused ≡ Succeeded) ↔ (found ≡ true)
succeeds_where (Marking m) true refused a b = absurd (a refl)
succeeds_where (Marking m) false true a b = (λ e. absurd (failed_succeeded e), λ e. absurd (clash (sym e)))
succeeds_where (Marking m) false false a b = (λ e. absurd (complete_succeeded e), λ e. absurd (clash (sym e)))
succeeds_where (Querying rule) found true a b = absurd (b refl)
succeeds_where (Querying rule) true false a b = (λ e. refl, λ e. refl)
succeeds_where (Querying rule) false false a b = (λ e. absurd (complete_succeeded e), λ e. absurd (clash (sym e)))

fails_where : (kind : Kind) (found refused : Bool) → (responds kind found refused ≡ Failure) ↔ (refused ≡ true)
fails_where kind found true = (λ e. refl, λ e. refl)
fails_where (Marking m) found false = (λ e. absurd (complete_failed e), λ e. absurd (clash (sym e)))
fails_where (Querying rule) true false = (λ e. absurd (succeeded_failed e), λ e. absurd (clash (sym e)))
fails_where (Querying rule) false false = (λ e. absurd (complete_failed e), λ e. absurd (clash (sym e)))

one_of_three : (kind : Kind) (found refused : Bool) → IsResponse (responds kind found refused)
one_of_three kind found true = inr (inr refl)
one_of_three (Marking m) found false = inl refl
one_of_three (Querying rule) true false = inr (inl refl)
one_of_three (Querying rule) false false = inl refl

-- Marks and looks

-- the unit that is visited is one of the function
visits_own : (old : PlainWorld) (ds : List Transition) (t : Ticket) (unit_index : ℕ) (kind : Kind) → Opens old → Leads old ds
    → IsMarkingNow (world_of old ds) t unit_index kind → IsFor old.inventory ds t kind unit_index
visits_own old ds t unit_index kind o l g =
    let x = g.opened in
    let was = was_open old ds (world_of old ds).function x g.there (functions_at old ds o l) in
    let here = subst (Among unit_index) (sym g.left) (inl refl) in
    let is : IsFor old.inventory ds x.chain.ticket kind unit_index = record {
      begun = was.begun;
      does = was.kind ∙ g.does;
      among = was.among unit_index here;
    } in
    subst (λ z. IsFor old.inventory ds z kind unit_index) g.of is

-- what the step at a place met, for good
abbrev Met : MarkAt → List Entry → List Transition → Type 0
Met p es ds = (p.place < length (history_of p.unit ds)) × (met_at p.place (history_of p.unit ds) ≡ es)

met_since : (p : MarkAt) (es : List Entry) (d : Transition) (ds : List Transition) → Met p es ds → Met p es (d ∷ ds)
met_since p es d ds h =
    let o = step_of p.unit d in
    let more = length_on o (history_of p.unit ds) in
    let lt = h.0 in
    (omega (arith, lt, more), met_on p.place o (history_of p.unit ds) h.0 ∙ h.1)

marks_so : (old : PlainWorld) (t : Ticket) (p : MarkAt) (m : MarkBy) (jobs : List PlainJob) (past ds : List Transition)
    → Opens old → Leads old (Transition.Mark t p m jobs ∷ past) → IsBeginning (Transition.Mark t p m jobs ∷ past) ds
    → IsMarkedSo old ds past t p m
marks_so old t p m jobs past ds o l b =
    let d = Transition.Mark t p m jobs in
    let g = l.1.marking in
    let h = history_of p.unit past in
    let steps = ((says_at old past o l.0).units p.unit g.unit g.unit_there).0.steps in
    let here = l.1.before ∙ ap (λ (z : List Step). length z) steps in
    let own = at_own p.unit p.unit (step_by m) refl in
    let es = met_by (step_by m) h in
    let now : Met p es (d ∷ past) = subst (λ z. (p.place < length (pushed z h)) × (met_at p.place (pushed z h) ≡ es))
    (sym own) (omega (arith, here), met_new p.place (step_by m) h here) in
    record {
      before = here;
      meets = (keeps_on (Met p es) (met_since p es) (d ∷ past) ds b now).1;
      visit = visits_own old past t p.unit (Marking m) o l.0 g;
    }

looks_so : (old : PlainWorld) (t : Ticket) (unit_index : ℕ) (rule : Rule) (b : Bool) (ds : List Transition) → Opens old
    → Leads old (Transition.Ask t unit_index rule b ∷ ds)
    → (b ≡ any_met rule (alive (history_of unit_index ds))) × IsFor old.inventory ds t (Querying rule) unit_index
looks_so old t unit_index rule b ds o l =
    let g = l.1.marking in
    let steps = ((says_at old ds o l.0).units unit_index g.unit g.unit_there).0.steps in
    (l.1.is ∙ ap (λ h. any_met rule (alive h)) steps, visits_own old ds t unit_index (Querying rule) o l.0 g)

-- The response

none_left : (unit_index : ℕ) (left : List ℕ) → left ≡ [] → Among unit_index left → ⊥
none_left unit_index left e h = subst (Among unit_index) e h

none_waits : (p : MarkAt) (waits : List MarkAt) → waits ≡ [] → Listed p waits → ⊥
none_waits p waits e h = subst (Listed p) e h

responds_so : (old : PlainWorld) (c : PlainChain) (r : FunctionResponse) (xs : Completion) (ds : List Transition) → Opens old
    → Leads old (Transition.Respond c r xs ∷ ds) → IsOver old ds c r xs
responds_so old c r xs ds o l =
    let m = l.1 in
    let g = m.waiting in
    let x = g.opened in
    let f = x.function in
    let said = was_open old ds (world_of old ds).function x g.there (functions_at old ds o l.0) in
    let was : IsUnderWay old ds (record { chain = c; function = f }) =
    subst (λ z. IsUnderWay old ds (record { chain = z; function = f })) m.chain said in
    let success = succeeds_where f.kind f.found f.refused was.asks was.marks in
    let failure = fails_where f.kind f.found f.refused in
    record {
      begun = was.begun;
      chain = was.chain;
      visited = λ unit_index i. elim (was.visits unit_index i) [ inl q ↦ absurd (none_left unit_index f.left g.left q) | inr q ↦ q ];
      clear = λ p told. elim (was.waits p told) [
        | inl q ↦ absurd (none_waits p f.waits g.still q)
        | inr q ↦ clear_of old ds p o l.0 q
      ];
      response = subst IsResponse (sym m.response) (one_of_three f.kind f.found f.refused);
      succeeds = (
        λ e. was.found.0 (success.0 (sym m.response ∙ e)),
        λ told. m.response ∙ success.1 (was.found.1 told),
      );
      fails = (
        λ e. was.failed.0 (failure.0 (sym m.response ∙ e)),
        λ told. m.response ∙ failure.1 (was.failed.1 told),
      );
      queue = m.queue;
      there = m.there;
      writes = m.writes;
    }

pub are_over : (old : PlainWorld) (ds : List Transition) → Opens old → Leads old ds → AreOver old ds
are_over old ds o l =
    record {
      marks = λ t p m jobs past b.
          marks_so old t p m jobs past ds o (leads_beginning old (Transition.Mark t p m jobs ∷ past) ds b l) b;
      looks = λ t unit_index rule found past b.
          looks_so old t unit_index rule found past o (leads_beginning old (Transition.Ask t unit_index rule found ∷ past) ds b l);
      responds = λ c r xs past b.
          responds_so old c r xs past o (leads_beginning old (Transition.Respond c r xs ∷ past) ds b l);
    }
