-- Which blocks of a unit may have changed, as C is told.
use Rattle.std.specs.Prelude.{ℕ, ◌≡◌, ◌≤◌, ◌<◌, false, List, length, map, take, Option, Some, None}
use Rattle.unit_model.specs.Unit.{PlainUnit}
use Rattle.logical_unit.specs.Changes.{AreUnchanged}
use Rattle.logical_unit.specs.declared.changes.Range.{Range}
use Rattle.device_steps.specs.Views.{unit_at}
use Rattle.c_calls.specs.declared.answer.Answer.{Answer}
use Rattle.c_calls.specs.declared.answer.Answer.TheVariants as answer
use Rattle.c_calls.specs.declared.ranges.BlockRange.{BlockRange}
use Rattle.c_calls.specs.declared.ranges.Told.{Told}
use Rattle.c_calls.specs.declared.served.Served.{Served}

abbrev pub range_of : BlockRange → Range
range_of r = record { first = r.first; count = r.count }

-- each block outside the first `count` ranges has what it had at a place of the history, or at any time since
abbrev pub AreTold : PlainUnit → ℕ → List BlockRange → ℕ → Type 0
AreTold u place ranges count = AreUnchanged u (record { since = place; ranges = map range_of (take count ranges) })

-- as `World::take_changes`, for a caller that knows what the unit had at a place of its history; before all else the
-- room is measured, and has to be for 64 ranges
abbrev pub TellsOf : Option PlainUnit → Told → List BlockRange → Answer → Told → List BlockRange → Type 0
TellsOf None old ranges answer.NoUnit new ranges' = (64 ≤ length ranges) × (new ≡ old) × (ranges' ≡ ranges)
TellsOf (Some u) old ranges answer.Done new ranges' = (64 ≤ length ranges) × (new.place ≡ length u.steps) × (new.count ≤ 64)
    × (length ranges' ≡ length ranges) × (new.all ≡ false → AreTold u old.place ranges' new.count)
TellsOf u old ranges answer.BadLength new ranges' = (length ranges < 64) × (new ≡ old) × (ranges' ≡ ranges)
TellsOf u old ranges a new ranges' = ⊥

abbrev pub TellsChanges : ℕ → ℕ → Told → List BlockRange → Told → List BlockRange → Served → Answer → Served → Type 0
TellsChanges target lun old ranges new ranges' d a d' = TellsOf (unit_at d.world target lun) old ranges a new ranges' × (d' ≡ d)
