-- The jobs that wait for pages as the device keeps them.
use Rattle.std.specs.Prelude.{ℕ, List}
use Rattle.unit_model.specs.Jobs.{PlainJob}

-- those that wait for pages of their unit's disk, those that are to be tried again, and how many these may be together
pub record KeptAside : Type 0 where
  pub aside : List PlainJob
  pub woken : List PlainJob
  pub limit : ℕ
