-- The bytes of longer runs, which are kept in a list that is longer.
use Rattle.std.specs.Prelude.{ℕ, List}

-- the bytes, and how many more have room
pub record PlainLongRuns : Type 0 where
  pub bytes : List ℕ
  pub spare : ℕ
