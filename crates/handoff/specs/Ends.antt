-- One queue, and the ends that seats have of it.
use Rattle.std.specs.Prelude.{ℕ}
use Rattle.atomic_table.specs.Seated.{TableId}
use Rattle.handoff.specs.declared.rule.View.{View}

-- own: which queue, and how many jobs it holds at most
pub record PlainLane : Type 0 where
  pub queue : TableId
  pub capacity : ℕ

-- own: an end: of which queue, and what it knows
pub record PlainEnd : Type 0 where
  pub queue : TableId
  pub knows : View
