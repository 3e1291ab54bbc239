-- The kinds of steps, of which the latest stand in a ring: what clauses see of them.
use Rattle.std.specs.Prelude.{ℕ, ◌+◌, ◌-◌, min, List}
use Rattle.unit_model.specs.Base.{most_kept}
use Rattle.unit_log.specs.declared.kind.StepKind.{StepKind}

-- own: the kinds of all steps, in their order, and for how many there is room
pub record Ringed : Type 0 where
  pub kinds : List StepKind
  pub cap : ℕ

-- for how many more steps there is room where so many are folded: all indices are there once a step is folded
abbrev pub ring_room : ℕ → ℕ → ℕ → ℕ
ring_room base cap len = base + min cap most_kept - len
