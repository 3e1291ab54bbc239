-- Which blocks of a unit may have changed, as a unit notes them.
use Rattle.std.specs.Prelude.{ℕ, ◌≡◌, ◌<◌, ◌≤◌, Bool, false, List, length}
use Rattle.std.specs.List.{list_any}
use Rattle.block_store.specs.Blocks.{is_within}
use Rattle.unit_model.specs.Steps.{Step, as_of}
use Rattle.unit_model.specs.Contents.{Opening, blocks_of, capacity_of}
use Rattle.unit_model.specs.Unit.{PlainUnit}
use Rattle.logical_unit.specs.declared.changes.Range.{Range}

-- own: ranges of blocks, and the place of the history from which on no block outside these has changed
pub record PlainChanges : Type 0 where
  pub since : ℕ
  pub ranges : List Range

-- own: one of the ranges has block b
abbrev pub is_in : List Range → ℕ → Bool
is_in ranges b = list_any (λ (r : Range). is_within r.first r.count b) ranges

-- own: each block of the unit outside the ranges has now what it had at any time since that place
abbrev pub AreUnchangedIn : Opening → List Step → PlainChanges → Type 0
AreUnchangedIn o steps c =
    (p b : ℕ) → c.since ≤ p → p ≤ length steps → b < capacity_of o steps → is_in c.ranges b ≡ false
    → blocks_of o steps b ≡ blocks_of o (as_of p steps) b

abbrev pub AreUnchanged : PlainUnit → PlainChanges → Type 0
AreUnchanged u c = AreUnchangedIn u.opening u.steps c
