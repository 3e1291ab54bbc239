-- Memory that nobody wrote into is seen as it was left.
use Rattle.std.specs.Prelude.{ℕ, Bool, true, false, List, refl}
use Rattle.device_model.specs.Parts.{IsSeen}

pub seen_as_left : (shared : Bool) (m : List ℕ) → IsSeen shared m m
seen_as_left false m = refl
seen_as_left true m = refl
