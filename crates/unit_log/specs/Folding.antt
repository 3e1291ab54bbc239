-- What is kept of folded steps.
use Rattle.std.specs.Prelude.{ℕ, List, Bool}
use Rattle.unit_log.specs.declared.kind.StepKind.{StepKind}

-- own: the kinds of the folded steps, in their order; of an Abort or a Reset before this place the rule is
-- forgotten; and whether their Commits are kept
pub record Folded : Type 0 where
  pub kinds : List StepKind
  pub forgotten : ℕ
  pub keeps : Bool
