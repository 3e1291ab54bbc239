-- What the parts of a unit are.
use Rattle.std.specs.Prelude.{ℕ, ◌≡◌, ◌+◌, ◌≤◌, List, [], ◌∷◌, length, Option, Some, None, if◌then◌else◌, ⊤}
use Rattle.std.specs.Option.{option_map}
use Rattle.block_store.specs.Blocks.{Blocks}
use Rattle.unit_attention.specs.declared.code.Code.{Code}
use Rattle.unit_model.specs.Steps.{Step, next_number}
use Rattle.unit_model.specs.Base.{base_of}
use Rattle.unit_model.specs.Seen.{Seen, tasks_of, owed, waits}
use Rattle.unit_model.specs.Contents.{Opening, blocks_of, pending_of}
use Rattle.unit_model.specs.Lawful.{IsLawful}
use Rattle.unit_model.specs.Jobs.{PlainJob}
use Rattle.task_set.specs.Tasks.{PlainTask}
use Rattle.task_set.specs.Inner.Tasks.{seen_of}
use Rattle.unit_log.specs.Inner.LastTickets.{floor_kept}

-- a task has its job as long as it waits, and no other
abbrev pub AreFit : List PlainTask → Type 0
AreFit [] = ⊤
AreFit (t ∷ tasks) =
    (option_map (λ (j : PlainJob). j.entry) t.parked ≡ (if waits t.seen then Some t.seen.entry else None))
    × AreFit tasks

-- the parts of a unit are what its history says
pub record AreKept (o : Opening) (steps : List Step) (block_at : Blocks) (pending : List Code) (tasks : List PlainTask)
    (last_tickets : List (Option ℕ)) (room : ℕ) : Type 0 where
  pub lawful : IsLawful o steps
  pub stored : (b : ℕ) → block_at b ≡ blocks_of o steps b
  pub pends : pending ≡ pending_of o steps
  pub set : seen_of tasks ≡ tasks_of steps
  pub fit : AreFit tasks
  pub floors : (q : ℕ) → floor_kept last_tickets q ≡ next_number q steps
  -- for the steps that the tasks that are alive may still take
  pub reserved : owed (seen_of tasks) ≤ room

-- no task that is alive entered before a place that is forgotten
abbrev pub AreBehind : ℕ → List Seen → Type 0
AreBehind forgotten [] = ⊤
AreBehind forgotten (s ∷ tasks) = (forgotten ≤ s.place + 1) × AreBehind forgotten tasks

-- what folded Aborts and Resets before a place met has left
abbrev pub AreClear : ℕ → List Step → List Seen → Type 0
AreClear forgotten steps tasks = (forgotten ≤ length steps) × AreBehind forgotten tasks

-- the oldest steps are folded as the history says, and what is forgotten of these nothing waits for
pub record AreBased (base forgotten : ℕ) (steps : List Step) (tasks : List Seen) : Type 0 where
  pub based : base ≡ base_of steps
  pub clear : AreClear forgotten steps tasks
