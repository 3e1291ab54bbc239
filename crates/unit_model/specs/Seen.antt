-- What a task set keeps of a task that is alive, and how each step changes it.
use Rattle.std.specs.Prelude.{ℕ, ◌+◌, Bool, false, not, nat_lt, ◌&&◌, ◌||◌, is_some, List, [], ◌∷◌, map, length, Option, Some, None, if◌then◌else◌}
use Rattle.std.specs.List.{list_any}
use Rattle.ring_core.specs.declared.log.Ticket.{Ticket}
use Rattle.unit_model.specs.declared.rule.Rule.{Rule}
use Rattle.unit_model.specs.declared.reason.Reason.{Reason}
use Rattle.unit_model.specs.Tasks.{Entry, same_ticket, is_blocked, meets}
use Rattle.unit_model.specs.Steps.{Step, alive, done, ended_well}
use Rattle.unit_model.specs.Marks.{mark_of, first_mark}
use Rattle.unit_model.specs.Enabling.{enabled}

-- own: the task, whether it may run, whether it did or was answered BUSY, whether it did and ended with GOOD, why it won't, and
-- the place of its Enter
pub record Seen : Type 0 where
  pub entry : Entry
  pub enabled : Bool
  pub done : Bool
  pub ended_well : Bool
  pub mark : Option Reason
  pub place : ℕ

-- own: how many steps stood before the Enter of a ticket
abbrev pub entered_at : Ticket → List Step → ℕ
entered_at t [] = 0
entered_at t (Step.Enter e ∷ past) = if same_ticket e.ticket t then length past else entered_at t past
entered_at t (step ∷ past) = entered_at t past

-- own: a task after a history
abbrev pub seen : List Step → Entry → Seen
seen h e =
    record {
      entry = e;
      enabled = enabled e h;
      done = done e.ticket h;
      ended_well = ended_well e.ticket h;
      mark = mark_of e.ticket h;
      place = entered_at e.ticket h;
    }

-- own: the tasks that are alive after a history, the oldest first
abbrev pub tasks_of : List Step → List Seen
tasks_of h = map (seen h) (alive h)

-- own: the tasks as they entered
abbrev pub entries : List Seen → List Entry
entries tasks = map (λ (s : Seen). s.entry) tasks

-- own: the task of a ticket
abbrev pub seen_at : Ticket → List Seen → Option Seen
seen_at t [] = None
seen_at t (s ∷ tasks) = if same_ticket s.entry.ticket t then Some s else seen_at t tasks

-- own: the tasks but that of a ticket
abbrev pub others : Ticket → List Seen → List Seen
others t [] = []
others t (s ∷ tasks) = if same_ticket s.entry.ticket t then tasks else s ∷ others t tasks

-- own: it was never handed out: it was never enabled, and is unmarked
abbrev pub waits : Seen → Bool
waits s = not s.enabled && not (is_some s.mark)

-- own: a task that enters at a place; with it these are alive
abbrev pub joined : ℕ → List Entry → Entry → Seen
joined place tasks e =
    record { entry = e; enabled = not (is_blocked e tasks); done = false; ended_well = false; mark = None; place = place }

-- own: a task after the Commit of a ticket, with GOOD or not, or after its Busy
abbrev pub finished : Ticket → Bool → Seen → Seen
finished t well s =
    record s {
      done = same_ticket t s.entry.ticket || s.done;
      ended_well = (same_ticket t s.entry.ticket && well) || s.ended_well;
    }

-- own: a task after an Abort or a Reset
abbrev pub with_mark : Rule → Reason → Seen → Seen
with_mark rule reason s = record s { mark = first_mark s.mark (meets rule s.entry && not s.done) reason }

-- own: a task after another left; these are alive
abbrev pub freed : List Entry → Seen → Seen
freed tasks s = record s { enabled = s.enabled || not (is_blocked s.entry tasks) }

-- own: the rule meets one of the tasks
abbrev pub any_met : Rule → List Entry → Bool
any_met rule tasks = list_any (meets rule) tasks

-- own: the rule meets one that entered before a place
abbrev pub any_before : ℕ → Rule → List Seen → Bool
any_before place rule tasks = list_any (λ (s : Seen). nat_lt s.place place && meets rule s.entry) tasks

-- own: how many steps the tasks may still take: one that is done its Leave, another its Commit or Busy before that
abbrev pub owed : List Seen → ℕ
owed [] = 0
owed (s ∷ tasks) = (if s.done then 1 else 2) + owed tasks
