-- The tasks of a task set, with the jobs of those that wait.
use Rattle.std.specs.Prelude.{ℕ, Bool, false, not, ◌&&◌, ◌||◌, is_some, IfSome, ◌≡◌, List, [], ◌∷◌, ◌++◌, map, Option, Some, None, if◌then◌else◌}
use Rattle.ring_core.specs.declared.log.Ticket.{Ticket}
use Rattle.request_intake.specs.declared.attribute.TaskAttribute.{TaskAttribute}
use Rattle.request_intake.specs.declared.attribute.TaskAttribute.TheVariants.{Simple, Ordered, HeadOfQueue}
use Rattle.unit_model.specs.declared.reason.Reason.{Reason}
use Rattle.unit_model.specs.Tasks.{Entry, is_blocked, same_ticket}
use Rattle.unit_model.specs.Seen.{Seen, waits, joined}
use Rattle.unit_model.specs.Jobs.{PlainJob}
use Rattle.task_set.specs.Tasks.{PlainTask, there}

-- own: what is kept of each task
abbrev pub seen_of : List PlainTask → List Seen
seen_of tasks = map (λ (t : PlainTask). t.seen) tasks

-- own: the tasks as they entered
abbrev pub entries_of : List PlainTask → List Entry
entries_of tasks = map (λ (t : PlainTask). t.seen.entry) tasks

-- own: a task after what is kept of it changed so: its job stays as long as it waits, and else is given
abbrev pub moved : (Seen → Seen) → PlainTask → PlainTask
moved f t = record { seen = f t.seen; parked = if waits (f t.seen) then t.parked else None }

abbrev pub given : (Seen → Seen) → PlainTask → Option PlainJob
given f t = if waits (f t.seen) then None else t.parked

-- own: the jobs that are given, by order of entry
abbrev pub all_given : (Seen → Seen) → List PlainTask → List PlainJob
all_given f tasks = there (map (given f) tasks)

-- own: the tasks but that of a ticket
abbrev pub without : Ticket → List PlainTask → List PlainTask
without t [] = []
without t (x ∷ tasks) = if same_ticket x.seen.entry.ticket t then tasks else x ∷ without t tasks

-- own: the task of a ticket
abbrev pub task_at : Ticket → List PlainTask → Option PlainTask
task_at t [] = None
task_at t (x ∷ tasks) = if same_ticket x.seen.entry.ticket t then Some x else task_at t tasks

-- own: the task, if there is one, may run
abbrev pub may_run : Option PlainTask → Bool
may_run None = false
may_run (Some t) = t.seen.enabled

-- own: a task that enters at a place, behind these
abbrev pub entering : ℕ → List PlainTask → PlainJob → PlainTask
entering place tasks j =
    let alive = entries_of tasks ++ j.entry ∷ [] in
    record {
      seen = joined place alive j.entry;
      parked = if is_blocked j.entry alive then Some j else None;
    }

-- own: its job goes back to whoever brought it, where nothing blocks it
abbrev pub run_at_once : List PlainTask → PlainJob → Option PlainJob
run_at_once tasks j = if is_blocked j.entry (entries_of tasks ++ j.entry ∷ []) then None else Some j

-- own: a task that may run from here on, unless something blocks it
abbrev pub enabled_unless : Bool → Seen → Seen
enabled_unless blocked s = record s { enabled = s.enabled || not blocked }

-- own: whether a task of this attribute is blocked, where there is a HEAD OF QUEUE task or not, and before it an
-- ORDERED one or not and any one or not
abbrev pub blocked_where : TaskAttribute → Bool → Bool → Bool → Bool
blocked_where Simple head_of_queue ordered any = head_of_queue || ordered
blocked_where Ordered head_of_queue ordered any = head_of_queue || any
blocked_where HeadOfQueue head_of_queue ordered any = false

-- own: the job of a task is parked exactly where it waits, and is its own
pub record IsKept (e : Entry) (enabled : Bool) (mark : Option Reason) (parked : Option PlainJob) : Type 0 where
  pub waiting : is_some parked ≡ (not enabled && not (is_some mark))
  pub own : IfSome parked (λ j. j.entry ≡ e)
