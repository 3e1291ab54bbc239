-- Items that are made one after another.
use Rattle.std.proofs.Common.{◌≡◌, ℕ, refl, List, [], ◌∷◌, ◌++◌, ◌+◌, ◌<◌, Option, Some, length, zero, suc, arith, ap, sym, ◌∙◌, ◌⊎◌, inl, inr, subst}
use Rattle.std.specs.Prelude.{slice_get}

-- the item that was put at the end of a list
at_end : {X : Type 0} (xs : List X) (y : X) → slice_get (xs ++ y ∷ []) (length xs) ≡ Some y
at_end [] y = refl
at_end (x ∷ xs) y = at_end xs y

-- those before it
before_end : {X : Type 0} (xs : List X) (y : X) (k : ℕ) → k < length xs → slice_get (xs ++ y ∷ []) k ≡ slice_get xs k
before_end [] y k lt = absurd (omega (arith, lt))
before_end (x ∷ xs) y zero lt = refl
before_end (x ∷ xs) y (suc k) lt = before_end xs y k (omega (arith, lt))

at_or_below : (k n : ℕ) → k < n + 1 → (k < n) ⊎ (k ≡ n)
at_or_below k n lt = grind arith

-- Items that are made one after another, each as its number and what a list has there ask; and one more of them:
module _ {X Y : Type 0} (P : ℕ → X → Option Y → Type 0) (wanted : List X) (made : List Y) (n : ℕ) (count : length made ≡ n)
    (each : (k : ℕ) (x : X) → k < n → slice_get wanted k ≡ Some x → P k x (slice_get made k))
    (y : Y) (is : (x : X) → slice_get wanted n ≡ Some x → P n x (Some y)) where
  pub one_more : (k : ℕ) (x : X) → k < n + 1 → slice_get wanted k ≡ Some x → P k x (slice_get (made ++ y ∷ []) k)
  one_more k x lt there =
      elim (at_or_below k n lt) [
        | inl below ↦ subst (λ (o : Option Y). P k x o) (sym (before_end made y k (omega (arith, below, count)))) (each k x below there)
        | inr here ↦
            let last : slice_get (made ++ y ∷ []) n ≡ Some y =
            ap (λ (j : ℕ). slice_get (made ++ y ∷ []) j) (sym count) ∙ at_end made y in
            subst (λ (j : ℕ). P j x (slice_get (made ++ y ∷ []) j)) (sym here)
            (subst (λ (o : Option Y). P n x o) (sym last) (is x (subst (λ (j : ℕ). slice_get wanted j ≡ Some x) here there)))
      ]
