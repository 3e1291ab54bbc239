-- What single items of a list count for its sum.
use Rattle.std.proofs.Common.{◌≡◌, ℕ, ◌+◌, ◌≤◌, false, eqb, List, [], ◌∷◌, Some, sym, ◌∙◌, ap, arith, zero, suc}
use Rattle.std.specs.Prelude.{slice_get}
use Rattle.std.specs.List.{AllByRecursion, sum_by}
use Rattle.std.proofs.lemmas.List.Sums.{sum_by-cons}
use Rattle.std.proofs.Math.Dec.{eqb-suc-suc}
use Rattle.device_model.proofs.Lists.{nothing, same}

-- one item
pub counts_one : {X : Type 0} (f : X → ℕ) (k : ℕ) (xs : List X) (x : X) → slice_get xs k ≡ Some x → f x ≤ sum_by f xs
counts_one f k [] x e = absurd (nothing e)
counts_one f zero (y ∷ xs) x e =
    let a = ap f (same e) in
    let c = sum_by-cons f y xs in
    omega (arith, a, c)
counts_one f (suc k) (y ∷ xs) x e =
    let a = counts_one f k xs x e in
    let c = sum_by-cons f y xs in
    omega (arith, a, c)

-- two items
pub counts_two : {X : Type 0} (f : X → ℕ) (k i : ℕ) (xs : List X) (x y : X) → eqb k i ≡ false
    → slice_get xs k ≡ Some x → slice_get xs i ≡ Some y → f x + f y ≤ sum_by f xs
counts_two f k i [] x y n e h = absurd (nothing e)
counts_two f zero zero (z ∷ xs) x y n e h = absurd (cc)
counts_two f zero (suc i) (z ∷ xs) x y n e h =
    let a = ap f (same e) in
    let b = counts_one f i xs y h in
    let c = sum_by-cons f z xs in
    omega (arith, a, b, c)
counts_two f (suc k) zero (z ∷ xs) x y n e h =
    let a = ap f (same h) in
    let b = counts_one f k xs x e in
    let c = sum_by-cons f z xs in
    omega (arith, a, b, c)
counts_two f (suc k) (suc i) (z ∷ xs) x y n e h =
    let a = counts_two f k i xs x y (sym (eqb-suc-suc k i) ∙ n) e h in
    let c = sum_by-cons f z xs in
    omega (arith, a, c)

-- where the sum is 0 each item is
pub counts_none : {X : Type 0} (f : X → ℕ) (xs : List X) → sum_by f xs ≡ 0 → AllByRecursion (λ x. f x ≡ 0) xs
counts_none f [] e = tt
counts_none f (x ∷ xs) e =
    let c = sum_by-cons f x xs in
    (omega (arith, c, e), counts_none f xs (omega (arith, c, e)))
