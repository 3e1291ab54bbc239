-- Which tasks an Abort or a Reset keeps from running.
use Rattle.std.specs.Prelude.{Bool, false, not, ◌&&◌, is_some, List, [], ◌∷◌, Option, Some, None, if◌then◌else◌}
use Rattle.ring_core.specs.declared.log.Ticket.{Ticket}
use Rattle.unit_model.specs.declared.rule.Rule.{Rule}
use Rattle.unit_model.specs.declared.rule.Rule.TheVariants as rules
use Rattle.unit_model.specs.declared.reason.Reason.{Reason}
use Rattle.unit_model.specs.declared.reason.Reason.TheVariants as reason
use Rattle.unit_model.specs.Tasks.{Entry, task_of, meets}
use Rattle.unit_model.specs.Steps.{Step, alive, done}

-- the rule meets this task, if there is one
abbrev pub meets_one : Rule → Option Entry → Bool
meets_one rule None = false
meets_one rule (Some e) = meets rule e

-- own: the task of the ticket is alive, met by the rule, and not done: its command has not run, and won't
abbrev pub is_marked_by : Rule → Ticket → List Step → Bool
is_marked_by rule t past = meets_one rule (task_of t (alive past)) && not (done t past)

-- the first mark stays
abbrev pub first_mark : Option Reason → Bool → Reason → Option Reason
first_mark (Some earlier) met now = Some earlier
first_mark None met now = if met then Some now else None

-- the reason of the first Abort (SAM-5 §7.2, §7.3, §7.5) or Reset (SAM-5 §7.6, §7.7) that met the task where it was
-- alive and not done
abbrev pub mark_of : Ticket → List Step → Option Reason
mark_of t [] = None
mark_of t (Step.Abort rule ∷ past) = first_mark (mark_of t past) (is_marked_by rule t past) reason.Aborted
mark_of t (Step.Reset c ∷ past) = first_mark (mark_of t past) (is_marked_by rules.All t past) reason.Reset
mark_of t (step ∷ past) = mark_of t past

abbrev pub marked : Ticket → List Step → Bool
marked t h = is_some (mark_of t h)
