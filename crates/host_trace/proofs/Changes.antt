-- One item of a list is changed: what two lists have in common there, and at the others.
use Rattle.std.proofs.Common.{◌≡◌, ℕ, zero, suc, List, [], ◌∷◌, Some, None, refl, ap}
use Rattle.std.specs.Prelude.{slice_get, option_map}
use Rattle.device_model.specs.World.{change}

pub some_is : {X : Type 0} {x y : X} → Some x ≡ Some y → x ≡ y
some_is e = cc

pub none_is : {X : Type 0} {x : X} → None ≡ Some x → ⊥
none_is e = cc

-- an item that isn't there, seen by f
absent_is : {X : Type 0} {x : X} → Some x ≡ None → ⊥
absent_is e = cc

-- what f sees of an item of two lists is the same after the same change
pub both : {X Y : Type 0} (f : X → Y) (g : X → X) → ((x y : X) → f x ≡ f y → f (g x) ≡ f (g y))
    → (k : ℕ) (xs ys : List X) (i : ℕ)
    → option_map f (slice_get xs i) ≡ option_map f (slice_get ys i)
    → option_map f (slice_get (change g k xs) i) ≡ option_map f (slice_get (change g k ys) i)
both f g same k [] [] i e = refl
both f g same k [] (y ∷ ys) zero e = absurd (none_is e)
both f g same zero [] (y ∷ ys) (suc i) e = e
both f g same (suc k) [] (y ∷ ys) (suc i) e = both f g same k [] ys i e
both f g same k (x ∷ xs) [] zero e = absurd (absent_is e)
both f g same zero (x ∷ xs) [] (suc i) e = e
both f g same (suc k) (x ∷ xs) [] (suc i) e = both f g same k xs [] i e
both f g same zero (x ∷ xs) (y ∷ ys) zero e = ap (λ z. Some z) (same x y (some_is e))
both f g same zero (x ∷ xs) (y ∷ ys) (suc i) e = e
both f g same (suc k) (x ∷ xs) (y ∷ ys) zero e = e
both f g same (suc k) (x ∷ xs) (y ∷ ys) (suc i) e = both f g same k xs ys i e

-- items alike
pub alike : {X : Type 0} (g : X → X) (k : ℕ) (xs ys : List X) (i : ℕ) → slice_get xs i ≡ slice_get ys i
    → slice_get (change g k xs) i ≡ slice_get (change g k ys) i
alike g k [] [] i e = refl
alike g k [] (y ∷ ys) zero e = absurd (none_is e)
alike g zero [] (y ∷ ys) (suc i) e = e
alike g (suc k) [] (y ∷ ys) (suc i) e = alike g k [] ys i e
alike g k (x ∷ xs) [] zero e = absurd (absent_is e)
alike g zero (x ∷ xs) [] (suc i) e = e
alike g (suc k) (x ∷ xs) [] (suc i) e = alike g k xs [] i e
alike g zero (x ∷ xs) (y ∷ ys) zero e = ap (λ z. Some (g z)) (some_is e)
alike g zero (x ∷ xs) (y ∷ ys) (suc i) e = e
alike g (suc k) (x ∷ xs) (y ∷ ys) zero e = e
alike g (suc k) (x ∷ xs) (y ∷ ys) (suc i) e = alike g k xs ys i e

-- an item that isn't the changed one
pub other : {X : Type 0} (g : X → X) (k : ℕ) (xs : List X) (i : ℕ) → (i ≡ k → ⊥)
    → slice_get (change g k xs) i ≡ slice_get xs i
other g k [] i apart = refl
other g zero (x ∷ xs) zero apart = absurd (apart refl)
other g zero (x ∷ xs) (suc i) apart = refl
other g (suc k) (x ∷ xs) zero apart = refl
other g (suc k) (x ∷ xs) (suc i) apart = other g k xs i (λ e. apart (ap (λ n. suc n) e))

-- what a change leaves as it was
pub kept : {X Y : Type 0} (f : X → Y) (g : X → X) → ((x : X) → f (g x) ≡ f x) → (k : ℕ) (xs : List X) (i : ℕ)
    → option_map f (slice_get (change g k xs) i) ≡ option_map f (slice_get xs i)
kept f g same k [] i = refl
kept f g same zero (x ∷ xs) zero = ap (λ z. Some z) (same x)
kept f g same zero (x ∷ xs) (suc i) = refl
kept f g same (suc k) (x ∷ xs) zero = refl
kept f g same (suc k) (x ∷ xs) (suc i) = kept f g same k xs i
