-- What a unit is once a step was taken, and which tasks can't leave.
use Rattle.std.proofs.Common.{◌≡◌, ℕ, Bool, false, ◌||◌, List, ◌∷◌, ◌++◌, Option, Some, None, is_some, sym, ◌∙◌, ap, subst}
use Rattle.ring_core.specs.declared.log.Ticket.{Ticket}
use Rattle.block_store.specs.Blocks.{Blocks}
use Rattle.block_store.specs.Storage.{Ledger}
use Rattle.unit_attention.specs.declared.code.Code.{Code}
use Rattle.unit_model.specs.Tasks.{task_of}
use Rattle.unit_model.specs.Steps.{Step, alive, done}
use Rattle.unit_model.specs.Contents.{Opening, capacity_of}
use Rattle.unit_model.specs.Lawful.{May}
use Rattle.unit_model.specs.Released.{released}
use Rattle.unit_model.specs.Jobs.{PlainJob, Jobs, but_tasks}
use Rattle.task_set.specs.Tasks.{PlainTask}
use Rattle.task_set.specs.Inner.Tasks.{task_at}
use Rattle.logical_unit.specs.Calls.{CannotLeave}
use Rattle.logical_unit.specs.Inner.Parts.{AreKept}
use Rattle.unit_model.specs.Unit.{PlainUnit, Steps, storage_after}
use Rattle.logical_unit.proofs.Keeping.{task_at_alive, task_at_none, is_done, is_marked}

abbrev pub unit_with : Opening → List Step → List PlainJob → Bool → Option Ledger → PlainUnit
unit_with o steps jobs keeps storage = record { opening = o; steps = steps; parked = jobs; keeps_replies = keeps; storage = storage }

same_unit : (o : Opening) (steps steps' : List Step) (jobs jobs' : List PlainJob) (keeps keeps' : Bool) (storage storage' : Option Ledger)
    → steps' ≡ steps → jobs' ≡ jobs → keeps' ≡ keeps → storage' ≡ storage
    → unit_with o steps' jobs' keeps' storage' ≡ unit_with o steps jobs keeps storage
same_unit o steps steps' jobs jobs' keeps keeps' storage storage' a b c d =
    ap (λ w. unit_with o w jobs' keeps' storage') a ∙ ap (λ w. unit_with o steps w keeps' storage') b
    ∙ ap (λ w. unit_with o steps jobs w storage') c ∙ ap (λ w. unit_with o steps jobs keeps w) d

-- the unit goes on by a step that may come next
pub steps_is : (o : Opening) (s : Step) (past steps' : List Step) (jobs jobs' : List PlainJob) (keeps keeps' : Bool) (storage storage' : Option Ledger)
    → May o s past → steps' ≡ s ∷ past → jobs' ≡ but_tasks (released s past) jobs → keeps' ≡ keeps
    → storage' ≡ storage_after s (capacity_of o past) storage
    → Steps (unit_with o past jobs keeps storage) s (unit_with o steps' jobs' keeps' storage')
steps_is o s past steps' jobs jobs' keeps keeps' storage storage' may a b c d =
    record { may = may; is = same_unit o (s ∷ past) steps' (but_tasks (released s past) jobs) jobs' keeps keeps' _ storage' a b c d }

-- what it hands out is behind what was there
pub handed_is : (out out' : Jobs) (given released : List PlainJob) → out' ≡ record out { jobs = out.jobs ++ given } → given ≡ released
    → out' ≡ record out { jobs = out.jobs ++ released }
handed_is out out' given released h same = h ∙ ap (λ w. let now : Jobs = record out { jobs = out.jobs ++ w } in now) same

module _ {o : Opening} {past : List Step} {block_at : Blocks} {pending : List Code} {tasks : List PlainTask} {last_tickets : List (Option ℕ)} {room : ℕ}
    (k : AreKept o past block_at pending tasks last_tickets room) where
  -- no task of the ticket is alive
  pub cannot_none : (t : Ticket) → task_at t tasks ≡ None → CannotLeave (task_of t (alive past)) t past
  cannot_none t at = subst (λ w. CannotLeave w t past) (sym (task_at_none k t at)) tt

  -- it neither ran nor was marked
  pub cannot_open : (t : Ticket) (x : PlainTask) → task_at t tasks ≡ Some x → (x.seen.done || is_some x.seen.mark) ≡ false → CannotLeave (task_of t (alive past)) t past
  cannot_open t x at unended =
      subst (λ w. CannotLeave w t past) (sym (task_at_alive k t x at).0)
      (sym (ap (λ b. b || is_some x.seen.mark) (is_done k t x at) ∙ ap (λ b. done t past || b) (is_marked k t x at)) ∙ unended)
