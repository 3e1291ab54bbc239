-- The lists of the hand-off as the device keeps them.
use Rattle.std.specs.Prelude.{ℕ, List}
use Rattle.unit_model.specs.Jobs.{PlainJob, Jobs}

-- for each seat the jobs that it handed off, and how many these may be
pub record KeptOff : Type 0 where
  pub lists : List (List PlainJob)
  pub limit : ℕ

abbrev pub jobs_of : Jobs → List PlainJob
jobs_of l = l.jobs
