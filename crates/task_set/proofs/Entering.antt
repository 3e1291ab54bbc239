-- A task that enters is blocked by those that are alive already.
use Rattle.std.proofs.Common.{◌≡◌, ℕ, Bool, true, false, not, ◌||◌, cond, if◌then◌else◌, List, [], ◌∷◌, ◌++◌, Option, Some, None, refl, sym, ◌∙◌, ap}
use Rattle.std.proofs.lemmas.List.Folds.{list_any-append}
use Rattle.request_intake.specs.declared.attribute.TaskAttribute.{TaskAttribute}
use Rattle.request_intake.specs.declared.attribute.TaskAttribute.TheVariants.{Simple, Ordered, HeadOfQueue}
use Rattle.unit_model.specs.Tasks.{Entry, entry_of, same_ticket, task_of, older, any_head_of_queue, any_ordered, any_task, is_head_of_queue, blocks, is_blocked}
use Rattle.request_intake.specs.UnitRequest.{PlainRequest}
use Rattle.unit_model.proofs.Tickets.{itself}
use Rattle.unit_model.specs.Jobs.{PlainJob}
use Rattle.task_set.specs.Tasks.{PlainTask}
use Rattle.task_set.specs.Inner.Tasks.{entries_of, entering, run_at_once}

absent_found : (e : Entry) → Some e ≡ None → ⊥
absent_found e h = cc

older_last : (e : Entry) (es : List Entry) → task_of e.ticket es ≡ None → older e.ticket (es ++ e ∷ []) ≡ es
older_last e [] h = ap (λ b. cond b [] (e ∷ [])) (itself e.ticket)
older_last e (x ∷ es) h =
    (elim (same_ticket x.ticket e.ticket) as (λ b. cond b (Some x) (task_of e.ticket es) ≡ None → cond b [] (x ∷ older e.ticket (es ++ e ∷ [])) ≡ x ∷ es) [
      | true ↦ λ k. absurd (absent_found x k)
      | false ↦ λ k. ap (λ w. x ∷ w) (older_last e es k)
    ]) h

or_nothing : (b : Bool) → (b || (false || false)) ≡ b
or_nothing true = refl
or_nothing false = refl

by_attribute : (a : TaskAttribute) (before alive : List Entry) (more : Bool) → any_head_of_queue alive ≡ (more || (is_head_of_queue a || false)) → any_head_of_queue before ≡ more
    → blocks a before alive ≡ blocks a before before
by_attribute HeadOfQueue before alive more h is = refl
by_attribute Simple before alive more h is = ap (λ b. b || any_ordered before) (h ∙ or_nothing more ∙ sym is)
by_attribute Ordered before alive more h is = ap (λ b. b || any_task before) (h ∙ or_nothing more ∙ sym is)

pub blocked_last : (e : Entry) (es : List Entry) → task_of e.ticket es ≡ None → is_blocked e (es ++ e ∷ []) ≡ blocks e.attribute es es
blocked_last e es h =
    ap (λ w. blocks e.attribute w (es ++ e ∷ [])) (older_last e es h)
    ∙ by_attribute e.attribute es (es ++ e ∷ []) (any_head_of_queue es) (list_any-append (λ (f : Entry). is_head_of_queue f.attribute) es (e ∷ [])) refl

-- a task that entered, whether it was blocked or not
abbrev entered : ℕ → PlainJob → Bool → PlainTask
entered place j blocked = record {
  seen = record { entry = j.entry; enabled = not blocked; done = false; ended_well = false; mark = None; place = place };
  parked = if blocked then Some j else None;
}

-- the test that was made of its request is that of the set with it
pub blocked_by : (j : PlainJob) (r : PlainRequest) (a : TaskAttribute) (es : List Entry) (blocked : Bool) → task_of j.entry.ticket es ≡ None → j.entry ≡ entry_of j.chain.ticket r
    → a ≡ r.attribute → blocked ≡ blocks a es es → blocked ≡ is_blocked j.entry (es ++ j.entry ∷ [])
blocked_by j r a es blocked fresh is same test =
    test ∙ ap (λ w. blocks w es es) (same ∙ sym (ap (λ (e : Entry). e.attribute) is)) ∙ sym (blocked_last j.entry es fresh)

pub entering_by : (place : ℕ) (tasks : List PlainTask) (j : PlainJob) (blocked : Bool) (t : PlainTask) → blocked ≡ is_blocked j.entry (entries_of tasks ++ j.entry ∷ [])
    → t ≡ entered place j blocked → t ≡ entering place tasks j
entering_by place tasks j blocked t is made = made ∙ ap (entered place j) is

pub given_back_by : (tasks : List PlainTask) (j : PlainJob) (blocked : Bool) (job : Option PlainJob) → blocked ≡ is_blocked j.entry (entries_of tasks ++ j.entry ∷ [])
    → job ≡ (if blocked then None else Some j) → job ≡ run_at_once tasks j
given_back_by tasks j blocked job is made = made ∙ ap (λ b. if b then None else Some j) is
