-- What a chain or a job is answered with, as plain values.
use Rattle.std.specs.Prelude.{Option}
use Rattle.unit_model.specs.Jobs.{PlainJob}
use Rattle.logical_unit.specs.declared.outcomes.Outcome as answers

-- a job in hand, and what came of its commit once that is over
pub record PlainJobInHand : Type 0 where
  pub job : PlainJob
  pub outcome : Option answers.Outcome
