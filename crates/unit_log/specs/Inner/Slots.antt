-- The kinds of steps by place, of which the latest stand in a ring.
use Rattle.std.specs.Prelude.{ℕ, ◌≡◌, ◌+◌, ◌≤◌, ◌<◌, ◌%◌, min, List, [], ◌∷◌, ◌++◌, length, set, nat_lt, slice_get, None, if◌then◌else◌}
use Rattle.unit_model.specs.Base.{most_kept}
use Rattle.unit_log.specs.Inner.Folding.{met_one}
use Rattle.unit_log.specs.declared.kind.StepKind.{StepKind}

-- own: one more at its index: behind the others until all indices are taken, and then in place of the oldest
abbrev pub with_slot : ℕ → StepKind → List StepKind → List StepKind
with_slot at kind slots = if nat_lt (length slots) most_kept then slots ++ kind ∷ [] else set slots at kind

-- own: at the index of a place, its remainder, stands its kind, where no more came since than there are indices
pub record AreSlots (len : ℕ) (slots kinds : List StepKind) : Type 0 where
  pub counted : len ≡ length kinds
  pub size : length slots ≡ min (length kinds) most_kept
  pub stand : (p : ℕ) → p < length kinds → length kinds ≤ p + most_kept → slice_get slots (p % most_kept) ≡ slice_get kinds p

-- own: from a place on there is no Abort and no Reset
abbrev pub IsCalm : ℕ → List StepKind → Type 0
IsCalm from kinds = (p : ℕ) → from ≤ p → met_one (slice_get kinds p) ≡ None

pub record AreRing (len calm : ℕ) (slots kinds : List StepKind) : Type 0 where
  pub slots_are : AreSlots len slots kinds
  pub calm_from : IsCalm calm kinds
