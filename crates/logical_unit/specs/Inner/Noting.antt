-- What noting a change leaves.
use Rattle.std.specs.Prelude.{ℕ, ◌≡◌, ◌<◌, ◌≤◌, ◌⊎◌, Bool, false, List, length}
use Rattle.unit_model.specs.Steps.{Step}
use Rattle.unit_model.specs.Contents.{Opening}
use Rattle.logical_unit.specs.Changes.{PlainChanges, is_in, AreUnchangedIn}

-- own: these blocks below the capacity are noted, by a step of this place. What was noted before still is, or is
-- forgotten, and then since this place.
pub record Notes (touched : ℕ → Bool) (capacity place : ℕ) (old new : PlainChanges) : Type 0 where
  pub noted : (b : ℕ) → b < capacity → is_in new.ranges b ≡ false → touched b ≡ false
  pub kept : ((new.since ≡ old.since) × ((b : ℕ) → b < capacity → is_in new.ranges b ≡ false → is_in old.ranges b ≡ false))
      ⊎ (new.since ≡ place)

-- own: what a unit has noted fits its history
pub record AreRecorded (o : Opening) (steps : List Step) (c : PlainChanges) : Type 0 where
  pub past : c.since ≤ length steps
  pub unchanged : AreUnchangedIn o steps c
