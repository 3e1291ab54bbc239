-- An item that is set where it stands, and what holds everywhere in the list then.
use Rattle.std.proofs.Common.{◌≡◌, ◌<◌, ◌==◌, ℕ, true, false, arith, zero, suc, List, [], ◌∷◌, Some, sym, ap, ◌∙◌, subst}
use Rattle.std.specs.Prelude.{slice_get, slice_set}
use Rattle.std.proofs.lemmas.Bool.Decides.{nat_tests}
use Rattle.device_model.specs.World.{change, Everywhere}
use Rattle.device_model.proofs.Lists.{same, nothing}
use Rattle.device_steps.proofs.Setting.{set_change}

-- no falsehood is true
no_truth : false ≡ true → ⊥
no_truth e = cc

-- what a change makes of the item, set at its index, is the change
pub set_as : {X : Type 0} (g : X → X) (k j : ℕ) (xs : List X) (x y : X) → slice_get xs k ≡ Some x → y ≡ g x → j ≡ k
    → slice_set xs k y ≡ change g j xs
set_as g k j xs x y at is e =
    ap (λ z. slice_set xs k z) is ∙ set_change g k xs x at ∙ ap (λ i. change g i xs) (sym e)

-- what holds of every item, and of one that is set, holds of every item then
pub everywhere_set : {X : Type 0} (P : ℕ → X → Type 0) (k : ℕ) (xs : List X) (y : X) → Everywhere P xs → P k y
    → Everywhere P (slice_set xs k y)
everywhere_set P k [] y h p i x at = absurd (nothing at)
everywhere_set P zero (z ∷ xs) y h p zero x at = subst (λ v. P zero v) (same at) p
everywhere_set P zero (z ∷ xs) y h p (suc i) x at = h (suc i) x at
everywhere_set P (suc k) (z ∷ xs) y h p zero x at = h zero x at
everywhere_set P (suc k) (z ∷ xs) y h p (suc i) x at =
    everywhere_set (λ j. P (suc j)) k xs y (λ j. h (suc j)) p i x at

-- a length that isn't 0 is above it
pub some_there : (n : ℕ) → false ≡ (n == 0) → 0 < n
some_there zero h = absurd (no_truth h)
some_there (suc n) h = omega arith

-- and one that is 0 is 0
pub none_there : (n : ℕ) → true ≡ (n == 0) → n ≡ 0
none_there n h = grind (arith, nat_tests, h)
