-- A position in the writable parts of a chain.
use Rattle.std.specs.Prelude.{ℕ, List}
use Rattle.ring_core.specs.declared.descriptor.Part.{Part}

-- the parts of the chain, and how many of their writable bytes lie before the position
pub record PlainCursor : Type 0 where
  pub parts : List Part
  pub at : ℕ
