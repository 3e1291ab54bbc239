-- The weight of tasks, where each ticket has a weight: with 1 for each ticket, how many tasks there are.
use Rattle.std.specs.Prelude.{ℕ, ◌+◌, Bool, List, [], ◌∷◌, if◌then◌else◌}
use Rattle.ring_core.specs.declared.log.Ticket.{Ticket}
use Rattle.unit_model.specs.Tasks.{Entry}
use Rattle.unit_model.specs.Steps.{Step, alive}
use Rattle.unit_model.specs.Enabling.{is_parked}

-- own: the weight of these tasks
abbrev pub weight : (Ticket → ℕ) → List Entry → ℕ
weight p [] = 0
weight p (e ∷ tasks) = p e.ticket + weight p tasks

-- own: the weight of those that pass a test
abbrev pub weigh : (Ticket → ℕ) → (Entry → Bool) → List Entry → ℕ
weigh p test [] = 0
weigh p test (e ∷ tasks) = (if test e then p e.ticket else 0) + weigh p test tasks

-- own: the weight of the tasks that are alive
abbrev pub alive_count : (Ticket → ℕ) → List Step → ℕ
alive_count p h = weight p (alive h)

-- own: the weight of those that were never handed out
abbrev pub parked_count : (Ticket → ℕ) → List Step → ℕ
parked_count p h = weigh p (is_parked h) (alive h)

-- own: how many there are
abbrev pub each_one : Ticket → ℕ
each_one t = 1
