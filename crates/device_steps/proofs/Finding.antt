-- The first item of a list that does, from an index on.
use Rattle.std.proofs.Common.{◌≡◌, ℕ, zero, suc, Bool, true, List, [], ◌∷◌, Some, refl, ap, ◌∙◌}
use Rattle.std.specs.Prelude.{slice_get, drop, find}
use Rattle.device_model.proofs.Lists.{nothing, same}

find_yes : {X : Type 0} (p : X → Bool) (x : X) (xs : List X) → p x ≡ true → find p (x ∷ xs) ≡ Some x
find_yes p x xs holds = rw holds refl

-- at one that does
pub find_here : {X : Type 0} (p : X → Bool) (xs : List X) (k : ℕ) (x : X) → slice_get xs k ≡ Some x → p x ≡ true
    → find p (drop k xs) ≡ Some x
find_here p [] k x at holds = absurd (nothing at)
find_here p (y ∷ xs) zero x at holds = find_yes p y xs (ap p (same at) ∙ holds) ∙ at
find_here p (y ∷ xs) (suc k) x at holds = find_here p xs k x at holds
