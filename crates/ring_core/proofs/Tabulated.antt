-- The list of a function's values at the numbers below a bound.
use Rattle.std.proofs.Common.{◌≡◌, ◌≢◌, ℕ, zero, suc, ◌<◌, ◌≤◌, [], ◌∷◌, ◌++◌, length, get_or, set, replicate, refl, sym, ap, ◌∙◌, arith, add-one, length-append, ◌⊎◌, inl, inr}
use Rattle.std.proofs.Math.Seq.{get_or-append_seam}
use Rattle.std.proofs.lemmas.Grind.{common_steps, replicate_next}
use Rattle.std.proofs.lemmas.List.{ext_get_or, length-set, get_or-set_same, get_or-set_other, get_or_append_left}
use Rattle.ring_core.specs.Table.{tabulated}

less_or_same : (k n : ℕ) → k < suc n → (k < n) ⊎ (k ≡ n)
less_or_same k n lt = grind arith

same_or_other : (i k : ℕ) → (i ≡ k) ⊎ (i ≢ k)
same_or_other i k = grind arith

module _ {X : Type 0} (f : ℕ → X) where
  pub length-tabulated : (n : ℕ) → length (tabulated f n) ≡ n
  unfolding tabulated
  length-tabulated zero = refl
  length-tabulated (suc n) = omega (arith, length-append (tabulated f n) (f n ∷ []), length-tabulated n)

  pub get_or-tabulated : (n k : ℕ) (d : X) → k < n → get_or (tabulated f n) k d ≡ f k
  unfolding tabulated
  get_or-tabulated zero k d lt = absurd (omega arith)
  get_or-tabulated (suc n) k d lt =
      elim (less_or_same k n lt) [
        | inl below ↦ get_or_append_left (tabulated f n) (f n ∷ []) d k (omega (arith, length-tabulated n)) ∙ get_or-tabulated n k d below
        | inr same ↦ rw same (ap (λ (i : ℕ). get_or (tabulated f n ++ f n ∷ []) i d) (sym (length-tabulated n)) ∙ get_or-append_seam (tabulated f n) (f n) [] d)
      ]

  pub past-tabulated : (n k : ℕ) (d : X) → n ≤ k → get_or (tabulated f n) k d ≡ d
  past-tabulated n k d le = let l = length-tabulated n in grind (arith, common_steps)

  pub tabulated-one : (x : X) → ((k : ℕ) → f k ≡ x) → (n : ℕ) → tabulated f n ≡ replicate n x
  unfolding tabulated
  tabulated-one x all zero = refl
  tabulated-one x all (suc n) = rw (tabulated-one x all n, all n) (sym (ap (λ (k : ℕ). replicate k x) (sym (add-one n)) ∙ replicate_next n x))

module _ {X : Type 0} (f g : ℕ → X) where
  pub tabulated-same : ((k : ℕ) → g k ≡ f k) → (n : ℕ) → tabulated g n ≡ tabulated f n
  unfolding tabulated
  tabulated-same same zero = refl
  tabulated-same same (suc n) = rw (tabulated-same same n, same n) refl

  -- one value is another
  pub tabulated-set : (k : ℕ) (v : X) → g k ≡ v → ((q : ℕ) → q ≢ k → g q ≡ f q) → (n : ℕ) → k < n → tabulated g n ≡ set (tabulated f n) k v
  tabulated-set k v here others n lt =
      ext_get_or v (tabulated g n) (set (tabulated f n) k v)
      (length-tabulated g n ∙ sym (length-set (tabulated f n) k v ∙ length-tabulated f n))
      (λ i below.
      let inside : i < n = omega (arith, length-tabulated g n, below) in
      get_or-tabulated g n i v inside
      ∙ elim (same_or_other i k) [
        | inl same ↦ ap g same ∙ here ∙ sym (ap (λ (j : ℕ). get_or (set (tabulated f n) k v) j v) same ∙ get_or-set_same (tabulated f n) k v v (omega (arith, length-tabulated f n, lt)))
        | inr other ↦ others i other ∙ sym (get_or-set_other (tabulated f n) k i v v other ∙ get_or-tabulated f n i v inside)
      ])
