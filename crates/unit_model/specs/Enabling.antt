-- Which tasks may run, and which a step lets go on.
use Rattle.std.specs.Prelude.{Bool, false, not, ◌||◌, ◌&&◌, List, [], ◌∷◌, filter}
use Rattle.ring_core.specs.declared.log.Ticket.{Ticket}
use Rattle.unit_model.specs.Tasks.{Entry, is_blocked}
use Rattle.unit_model.specs.Steps.{Step, alive, has_entered}
use Rattle.unit_model.specs.Marks.{marked}

-- the task may run (SAM-5 §8.5, §8.6): some beginning of the history that holds its Enter does not block it
abbrev pub enabled : Entry → List Step → Bool
enabled e [] = false
enabled e (step ∷ past) =
    enabled e past || (has_entered e.ticket (step ∷ past) && not (is_blocked e (alive (step ∷ past))))

-- own: the task was never handed out: it was never enabled, and is unmarked
abbrev pub is_parked : List Step → Entry → Bool
is_parked h e = not (enabled e h) && not (marked e.ticket h)

-- own: the tasks that the Leave of a ticket enables, by order of entry: alive and unmarked, and not enabled before
abbrev pub newly_enabled : Ticket → List Step → List Entry
newly_enabled t past =
    filter (λ e. not (marked e.ticket past) && (not (enabled e past) && enabled e (Step.Leave t ∷ past)))
    (alive (Step.Leave t ∷ past))

-- own: the tasks that an Abort or a Reset marks first and that were never enabled, by order of entry
abbrev pub newly_marked : Step → List Step → List Entry
newly_marked step past =
    filter (λ e. not (marked e.ticket past) && (marked e.ticket (step ∷ past) && not (enabled e past))) (alive past)
