-- A request that is served to its end in one call of its unit.
use Rattle.std.specs.Prelude.{◌≡◌, []}
use Rattle.unit_model.specs.Endings.{Ending}
use Rattle.unit_model.specs.Steps.{Step}
use Rattle.unit_model.specs.Jobs.{PlainJob}
use Rattle.logical_unit.specs.Calls.{Enters, Commits}
use Rattle.logical_unit.specs.Endings.{ending_of}
use Rattle.unit_model.specs.Unit.{PlainUnit, Steps}
use Rattle.logical_unit.specs.declared.outcomes.Entered.TheVariants as entered
use Rattle.logical_unit.specs.declared.outcomes.Outcome.{Outcome}

-- own: its task enters and nothing blocks it, its command runs whole or is refused memory, it is answered by what came
-- of that, and its task leaves; no job waits then that this could hand out
pub record ServesAlone (answers : Ending → Type 0) (old : PlainUnit) (j : PlainJob) (new : PlainUnit) : Type 0 where
  pub once_entered : PlainUnit
  pub once_run : PlainUnit
  pub outcome : Outcome
  pub enters : Enters old j (entered.Run j) once_entered
  pub commits : Commits once_entered j outcome once_run
  pub answered : answers (ending_of outcome)
  pub leaves : Steps once_run (Step.Leave j.chain.ticket) new
  pub alone : once_run.parked ≡ []
