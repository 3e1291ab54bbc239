-- Two sequences of descriptors one behind the other.
use Rattle.std.proofs.Common.{◌≡◌, ℕ, zero, suc, ◌+◌, ◌-◌, ◌<◌, ◌≤◌, List, [], ◌∷◌, ◌++◌, Bool, false, ◌||◌, cond, nat_lt, refl, sym, ap, ◌∙◌, arith, append-nil, append_assoc}
use Rattle.std.proofs.lemmas.Grind.{common_steps}
use Rattle.std.proofs.lemmas.Bool.Decides.{nat_tests}
use Rattle.std.proofs.lemmas.List.Sums.{sum_by-append}
use Rattle.std.proofs.lemmas.List.Folds.{list_any-append}
use Rattle.std.specs.List.{list_any}
use Rattle.ring_core.specs.Walk.{nothing_before, is_writable, amount, front, first_of, buffer_tests}
use Rattle.ring_core.specs.declared.descriptor.Descriptor.{Descriptor}
use Rattle.ring_core.specs.declared.before.Before.{Before}
use Rattle.ring_core.proofs.Along.{or_assoc}

-- n of the first, and then the second
pub joined : ℕ → (ℕ → Descriptor) → (ℕ → Descriptor) → ℕ → Descriptor
joined n at more k = cond (nat_lt k n) (at k) (more (k - n))

front_same : (f g : ℕ → Descriptor) (n : ℕ) → ((k : ℕ) → k < n → f k ≡ g k) → front f n ≡ front g n
unfolding front
front_same f g zero same = refl
front_same f g (suc n) same = rw (front_same f g n (λ k lt. same k (omega arith)), same n (omega arith)) refl

-- a buffer's tests don't look at how many stand before it
tests_same : (memory : ℕ) (b c : Before) (d : Descriptor) → b.total ≡ c.total → b.writable ≡ c.writable → first_of (buffer_tests memory b d) ≡ first_of (buffer_tests memory c d)
tests_same memory b c d e f = rw (e, f) refl

total_on : (first : Before) (xs ys : List Descriptor) → (amount first (xs ++ ys)).total ≡ (amount (amount first xs) ys).total
total_on first xs ys = omega (arith, sum_by-append (λ (x : Descriptor). x.len) xs ys)

writable_on : (first : Before) (xs ys : List Descriptor) → (amount first (xs ++ ys)).writable ≡ (amount (amount first xs) ys).writable
writable_on first xs ys =
    ap (λ (x : Bool). first.writable || x) (list_any-append is_writable xs ys) ∙ sym (or_assoc first.writable (list_any is_writable xs) (list_any is_writable ys))

module _ (n : ℕ) (at more : ℕ → Descriptor) where
  pub joined_low : (k : ℕ) → k < n → joined n at more k ≡ at k
  unfolding joined
  joined_low k lt = grind (arith, common_steps, nat_tests)

  pub joined_high : (k : ℕ) → joined n at more (n + k) ≡ more k
  unfolding joined
  joined_high k = let e : n + k - n ≡ k = omega arith in let off : nat_lt (n + k) n ≡ false = grind (arith, common_steps, nat_tests) in rw (off, e) refl

  pub front_low : (k : ℕ) → k ≤ n → front (joined n at more) k ≡ front at k
  front_low k le = front_same (joined n at more) at k (λ j lt. joined_low j (omega arith))

  pub front_high : (k : ℕ) → front (joined n at more) (n + k) ≡ front at n ++ front more k
  unfolding front
  front_high zero =
      let e : n + 0 ≡ n = omega arith in
      ap (front (joined n at more)) e ∙ front_low n (omega arith) ∙ sym (append-nil (front at n))
  front_high (suc k) =
      let e : n + suc k ≡ suc (n + k) = omega arith in
      ap (front (joined n at more)) e
      ∙ ap (λ (ds : List Descriptor). ds ++ joined n at more (n + k) ∷ []) (front_high k)
      ∙ ap (λ (d : Descriptor). (front at n ++ front more k) ++ d ∷ []) (joined_high k)
      ∙ append_assoc (front at n) (front more k) (more k ∷ [])

  module _ (memory : ℕ) where
    -- what is tested of a buffer of the first
    pub tests_low : (k : ℕ) → k < n → first_of (buffer_tests memory (amount nothing_before (front (joined n at more) k)) (joined n at more k)) ≡ first_of (buffer_tests memory (amount nothing_before (front at k)) (at k))
    tests_low k lt =
        ap (λ (d : Descriptor). first_of (buffer_tests memory (amount nothing_before (front (joined n at more) k)) d)) (joined_low k lt)
        ∙ ap (λ (ds : List Descriptor). first_of (buffer_tests memory (amount nothing_before ds) (at k))) (front_low k (omega arith))

    -- and of the second
    pub tests_high : (k : ℕ) → first_of (buffer_tests memory (amount nothing_before (front (joined n at more) (n + k))) (joined n at more (n + k)))
        ≡ first_of (buffer_tests memory (amount (amount nothing_before (front at n)) (front more k)) (more k))
    tests_high k =
        ap (λ (d : Descriptor). first_of (buffer_tests memory (amount nothing_before (front (joined n at more) (n + k))) d)) (joined_high k)
        ∙ ap (λ (ds : List Descriptor). first_of (buffer_tests memory (amount nothing_before ds) (more k))) (front_high k)
        ∙ tests_same memory (amount nothing_before (front at n ++ front more k)) (amount (amount nothing_before (front at n)) (front more k)) (more k)
        (total_on nothing_before (front at n) (front more k)) (writable_on nothing_before (front at n) (front more k))
