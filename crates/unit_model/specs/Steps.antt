-- The steps of a unit, and which tasks are alive and done after them.
use Rattle.std.specs.Prelude.{ℕ, ◌+◌, ◌-◌, Bool, false, ◌==◌, ◌&&◌, ◌||◌, is_some, List, [], ◌∷◌, ◌++◌, length, drop, if◌then◌else◌}
use Rattle.command_model.specs.PlainReply.{PlainReply}
use Rattle.command_model.specs.Statuses.{good}
use Rattle.ring_core.specs.declared.log.Ticket.{Ticket}
use Rattle.unit_attention.specs.declared.code.Code.{Code}
use Rattle.unit_model.specs.declared.rule.Rule.{Rule}
use Rattle.unit_model.specs.Tasks.{Entry, same_ticket, task_of, without}

-- own: a task enters, or is refused with TASK SET FULL; its command runs, or is refused memory and answered
-- BUSY; tasks are aborted; the unit is reset and raises this code; it has so many blocks from now on; a task leaves, once
-- it was answered
pub data Step : Type 0 where
  Enter : Entry → Step
  Full : Ticket → Step
  Commit : Ticket → PlainReply → Step
  Busy : Ticket → Step
  Abort : Rule → Step
  Reset : Code → Step
  Resize : ℕ → Step
  Leave : Ticket → Step

-- the tasks that are alive, the oldest first (SAM-5 §5.5): they entered and did not leave
abbrev pub alive : List Step → List Entry
alive [] = []
alive (Step.Enter e ∷ past) = alive past ++ e ∷ []
alive (Step.Leave t ∷ past) = without t (alive past)
alive (step ∷ past) = alive past

abbrev pub is_alive : Ticket → List Step → Bool
is_alive t h = is_some (task_of t (alive h))

-- own: one above the last ticket of a queue in an Enter or a Full
abbrev pub next_number : ℕ → List Step → ℕ
next_number q [] = 0
next_number q (Step.Enter e ∷ past) = if e.ticket.queue == q then e.ticket.number + 1 else next_number q past
next_number q (Step.Full t ∷ past) = if t.queue == q then t.number + 1 else next_number q past
next_number q (step ∷ past) = next_number q past

-- own: the task has an Enter
abbrev pub has_entered : Ticket → List Step → Bool
has_entered t [] = false
has_entered t (Step.Enter e ∷ past) = same_ticket e.ticket t || has_entered t past
has_entered t (step ∷ past) = has_entered t past

-- own: the task has a Commit or a Busy
abbrev pub done : Ticket → List Step → Bool
done t [] = false
done t (Step.Commit u r ∷ past) = same_ticket u t || done t past
done t (Step.Busy u ∷ past) = same_ticket u t || done t past
done t (step ∷ past) = done t past

-- own: the task has a Commit with GOOD
abbrev pub ended_well : Ticket → List Step → Bool
ended_well t [] = false
ended_well t (Step.Commit u r ∷ past) = (same_ticket u t && r.status == good) || ended_well t past
ended_well t (step ∷ past) = ended_well t past

-- own: the task has a Leave
abbrev pub has_left : Ticket → List Step → Bool
has_left t [] = false
has_left t (Step.Leave u ∷ past) = same_ticket u t || has_left t past
has_left t (step ∷ past) = has_left t past

-- own: the history as it was when it had so many steps
abbrev pub as_of : ℕ → List Step → List Step
as_of place steps = drop (length steps - place) steps
