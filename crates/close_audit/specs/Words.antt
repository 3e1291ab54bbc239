-- More words of histories, and the order of tickets.
use Rattle.std.specs.Prelude.{Bool, false, nat_lt, ◌==◌, ◌&&◌, ◌||◌, List, [], ◌∷◌}
use Rattle.std.specs.List.{list_any}
use Rattle.ring_core.specs.declared.log.Ticket.{Ticket}
use Rattle.unit_model.specs.Tasks.{same_ticket}
use Rattle.unit_model.specs.Steps.{Step}

-- own: the task has a Busy
abbrev pub has_busy : Ticket → List Step → Bool
has_busy t [] = false
has_busy t (Step.Busy u ∷ past) = same_ticket u t || has_busy t past
has_busy t (step ∷ past) = has_busy t past

-- own: the task has a Commit
abbrev pub has_run : Ticket → List Step → Bool
has_run t [] = false
has_run t (Step.Commit u r ∷ past) = same_ticket u t || has_run t past
has_run t (step ∷ past) = has_run t past

-- own: one of the steps is the task's
abbrev pub has_step : Ticket → List Step → Bool
has_step t [] = false
has_step t (Step.Enter e ∷ past) = same_ticket e.ticket t || has_step t past
has_step t (Step.Commit u r ∷ past) = same_ticket u t || has_step t past
has_step t (Step.Busy u ∷ past) = same_ticket u t || has_step t past
has_step t (Step.Leave u ∷ past) = same_ticket u t || has_step t past
has_step t (step ∷ past) = has_step t past

-- own: two items pass a test
abbrev pub in_two : {X : Type 0} → (X → Bool) → List X → Bool
in_two p [] = false
in_two p (x ∷ xs) = (p x && list_any p xs) || in_two p xs

-- own: the request has a Full
abbrev pub has_full : Ticket → List Step → Bool
has_full t [] = false
has_full t (Step.Full u ∷ past) = same_ticket u t || has_full t past
has_full t (step ∷ past) = has_full t past

-- own: by queue, then by number
abbrev pub is_before : Ticket → Ticket → Bool
is_before a b = nat_lt a.queue b.queue || ((a.queue == b.queue) && nat_lt a.number b.number)
