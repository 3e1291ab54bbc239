-- The indexes of a target's units are all that there are, each once, rising, and below the number of units.
use Rattle.std.proofs.Common.{◌≡◌, ℕ, zero, suc, Bool, true, false, cond, ◌&&◌, ◌||◌, nat_le, nat_lt, ◌+◌, ◌<◌, ◌≤◌, ◌==◌, inl, inr, List, [], ◌∷◌, length, filter, slice_get, refl, ap, ◌∙◌, arith}
use Rattle.std.specs.List.{range_with_len, list_any, AllByRecursion}
use Rattle.std.proofs.lemmas.Bool.{cases_eq, cases_lt}
use Rattle.std.proofs.lemmas.Bool.Decides.{nat_tests}
use Rattle.scsi_codec.specs.declared.lun.Address.{Address}
use Rattle.task_mgmt.specs.Demands.{is_of_target, indexes_of}
use Rattle.task_mgmt.specs.Visits.{AreRising}

-- Each once, rising

above_if : (b : Bool) (c a : ℕ) (xs : List ℕ) → c < a → AllByRecursion (λ k. c < k) xs → AllByRecursion (λ k. c < k) (cond b (a ∷ xs) xs)
above_if true c a xs h more = (h, more)
above_if false c a xs h more = more

above : (p : ℕ → Bool) (c a n : ℕ) → c < a → AllByRecursion (λ k. c < k) (filter p (range_with_len a n))
above p c a zero h = tt
above p c a (suc n) h = above_if (p a) c a (filter p (range_with_len (a + 1) n)) h (above p c (a + 1) n (omega arith))

rising_if : (b : Bool) (a : ℕ) (xs : List ℕ) → AllByRecursion (λ k. a < k) xs → AreRising xs → AreRising (cond b (a ∷ xs) xs)
rising_if true a xs h more = (h, more)
rising_if false a xs h more = more

rising : (p : ℕ → Bool) (a n : ℕ) → AreRising (filter p (range_with_len a n))
rising p a zero = tt
rising p a (suc n) = rising_if (p a) a (filter p (range_with_len (a + 1) n)) (above p a (a + 1) n (omega arith)) (rising p (a + 1) n)

pub places_rising : (units : List Address) (target : ℕ) → AreRising (indexes_of units target)
places_rising units target = rising (λ unit_index. is_of_target target (slice_get units unit_index)) 0 (length units)

-- Below the number of units

below_if : (b : Bool) (m a : ℕ) (xs : List ℕ) → a < m → AllByRecursion (λ k. k < m) xs → AllByRecursion (λ k. k < m) (cond b (a ∷ xs) xs)
below_if true m a xs h more = (h, more)
below_if false m a xs h more = more

below : (p : ℕ → Bool) (m a n : ℕ) → a + n ≤ m → AllByRecursion (λ k. k < m) (filter p (range_with_len a n))
below p m a zero h = tt
below p m a (suc n) h = below_if (p a) m a (filter p (range_with_len (a + 1) n)) (omega arith) (below p m (a + 1) n (omega arith))

pub places_there : (units : List Address) (target : ℕ) → AllByRecursion (λ k. k < length units) (indexes_of units target)
places_there units target = below (λ unit_index. is_of_target target (slice_get units unit_index)) (length units) 0 (length units) (omega arith)

-- All that there are

any_if : (b : Bool) (a k : ℕ) (xs : List ℕ) → list_any (λ it. it == k) (cond b (a ∷ xs) xs) ≡ ((b && (a == k)) || list_any (λ it. it == k) xs)
any_if true a k xs = refl
any_if false a k xs = refl

same_place : (p : ℕ → Bool) (a k n : ℕ) → ((p a && (a == k)) || ((nat_le (a + 1) k && nat_lt k ((a + 1) + n)) && p k)) ≡ ((nat_le a k && nat_lt k (a + suc n)) && p k)
same_place p a k n = elim (cases_eq a k) [
  | inl here ↦
      let same : p a ≡ p k = ap p here in
      grind (arith, nat_tests, same)
  | inr other ↦ grind (arith, nat_tests)
]

any_of : (p : ℕ → Bool) (k a n : ℕ) → list_any (λ it. it == k) (filter p (range_with_len a n)) ≡ ((nat_le a k && nat_lt k (a + n)) && p k)
any_of p k a zero = grind (arith, nat_tests)
any_of p k a (suc n) =
    any_if (p a) a k (filter p (range_with_len (a + 1) n))
    ∙ ap (λ w. (p a && (a == k)) || w) (any_of p k (a + 1) n)
    ∙ same_place p a k n

past : (units : List Address) (target k : ℕ) → length units ≤ k → is_of_target target (slice_get units k) ≡ false
past [] target k h = refl
past (a ∷ units) target zero h = absurd (omega arith)
past (a ∷ units) target (suc k) h = past units target k (omega arith)

pub places_all : (units : List Address) (target k : ℕ) → list_any (λ it. it == k) (indexes_of units target) ≡ is_of_target target (slice_get units k)
places_all units target k =
    let found = any_of (λ unit_index. is_of_target target (slice_get units unit_index)) k 0 (length units) in
    elim (cases_lt k (length units)) [
      | inl within ↦ found ∙ grind (arith, nat_tests)
      | inr beyond ↦
          let none : is_of_target target (slice_get units k) ≡ false = past units target k beyond in
          found ∙ grind (arith, nat_tests, none)
    ]
