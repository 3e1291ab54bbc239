-- Lists that are read by index.
use Rattle.std.proofs.Common.{◌≡◌, ◌≢◌, ℕ, ◌+◌, ◌<◌, zero, suc, List, [], ◌∷◌, ◌++◌, Some, None, length, map, refl, sym, ap, ◌∙◌, arith, ◌⊎◌, inl, inr}
use Rattle.std.specs.Prelude.{slice_get, slice_set}

pub nothing : {X : Type 0} {x : X} → None ≡ Some x → ⊥
nothing e = cc

pub same : {X : Type 0} {x y : X} → Some x ≡ Some y → x ≡ y
same e = cc

-- what is set is there
pub get_here : {X : Type 0} (xs : List X) (k : ℕ) (x y : X) → slice_get xs k ≡ Some x
    → slice_get (slice_set xs k y) k ≡ Some y
get_here [] k x y at = absurd (nothing at)
get_here (z ∷ xs) zero x y at = refl
get_here (z ∷ xs) (suc k) x y at = get_here xs k x y at

-- an item where one is set is that one, or an old one elsewhere
pub get_set : {X : Type 0} (xs : List X) (k i : ℕ) (y x : X) → slice_get (slice_set xs k y) i ≡ Some x
    → ((i ≡ k) × (x ≡ y)) ⊎ ((i ≢ k) × (slice_get xs i ≡ Some x))
get_set [] k i y x at = absurd (nothing at)
get_set (z ∷ xs) zero zero y x at = inl (refl, sym (same at))
get_set (z ∷ xs) zero (suc i) y x at = inr ((λ e. omega (arith, e)), at)
get_set (z ∷ xs) (suc k) zero y x at = inr ((λ e. omega (arith, e)), at)
get_set (z ∷ xs) (suc k) (suc i) y x at =
    elim (get_set xs k i y x at) [
      | inl p ↦ inl (ap suc p.0, p.1)
      | inr p ↦ inr (let ne = p.0 in (λ e. ne (omega (arith, e))), p.1)
    ]

pub get_else : {X : Type 0} (xs : List X) (k i : ℕ) (y : X) → i ≢ k
    → slice_get (slice_set xs k y) i ≡ slice_get xs i
get_else [] k i y ne = refl
get_else (z ∷ xs) zero zero y ne = absurd (ne refl)
get_else (z ∷ xs) zero (suc i) y ne = refl
get_else (z ∷ xs) (suc k) zero y ne = refl
get_else (z ∷ xs) (suc k) (suc i) y ne = get_else xs k i y (λ e. ne (ap suc e))

pub set_length : {X : Type 0} (xs : List X) (k : ℕ) (x : X) → length (slice_set xs k x) ≡ length xs
set_length [] k x = refl
set_length (y ∷ xs) zero x = refl
set_length (y ∷ xs) (suc k) x = ap suc (set_length xs k x)

-- the image of a list where an item is set that has the same image
pub map_set_same : {X Y : Type 0} (f : X → Y) (xs : List X) (k : ℕ) (x y : X) → slice_get xs k ≡ Some x → f y ≡ f x
    → map f (slice_set xs k y) ≡ map f xs
map_set_same f [] k x y at e = refl
map_set_same f (z ∷ xs) zero x y at e = ap (λ w. w ∷ map f xs) (e ∙ ap f (sym (same at)))
map_set_same f (z ∷ xs) (suc k) x y at e = ap (λ ws. f z ∷ ws) (map_set_same f xs k x y at e)

pub set_same : {X : Type 0} (xs : List X) (k : ℕ) (x : X) → slice_get xs k ≡ Some x → slice_set xs k x ≡ xs
set_same [] k x e = refl
set_same (y ∷ xs) zero x e = ap (λ z. z ∷ xs) (sym (same e))
set_same (y ∷ xs) (suc k) x e = ap (λ zs. y ∷ zs) (set_same xs k x e)

-- what is there has its image there, and what is there in an image is one
pub map_get : {X Y : Type 0} (f : X → Y) (xs : List X) (k : ℕ) (x : X) → slice_get xs k ≡ Some x
    → slice_get (map f xs) k ≡ Some (f x)
map_get f [] k x e = absurd (nothing e)
map_get f (y ∷ xs) zero x e = ap (λ z. Some (f z)) (same e)
map_get f (y ∷ xs) (suc k) x e = map_get f xs k x e

pub map_back : {X Y : Type 0} (f : X → Y) (xs : List X) (k : ℕ) (y : Y) → slice_get (map f xs) k ≡ Some y
    → (x : X) × (slice_get xs k ≡ Some x) × (f x ≡ y)
map_back f [] k y e = absurd (nothing e)
map_back f (x ∷ xs) zero y e = (x, refl, same e)
map_back f (x ∷ xs) (suc k) y e = map_back f xs k y e

-- there is an item at each index below the length
pub stands_at : {X : Type 0} (xs : List X) (k : ℕ) → k < length xs → (x : X) × (slice_get xs k ≡ Some x)
stands_at [] k lt = absurd (omega (arith, lt))
stands_at (x ∷ xs) zero lt = (x, refl)
stands_at (x ∷ xs) (suc k) lt = stands_at xs k (omega (arith, lt))

-- lists of the same items at each index are one
pub same_list : {X : Type 0} (xs ys : List X) → length xs ≡ length ys
    → ((k : ℕ) (y : X) → slice_get ys k ≡ Some y → slice_get xs k ≡ Some y) → xs ≡ ys
same_list [] [] n h = refl
same_list [] (y ∷ ys) n h = absurd (omega (arith, n))
same_list (x ∷ xs) [] n h = absurd (omega (arith, n))
same_list (x ∷ xs) (y ∷ ys) n h =
    let tail = same_list xs ys (omega (arith, n)) (λ k z at. h (suc k) z at) in
    ap (λ z. z ∷ xs) (same (h 0 y refl)) ∙ ap (λ zs. y ∷ zs) tail

-- the item that was put at the end, and those before it
pub at_end : {X : Type 0} (xs : List X) (y : X) → slice_get (xs ++ y ∷ []) (length xs) ≡ Some y
at_end [] y = refl
at_end (x ∷ xs) y = at_end xs y

pub before_end : {X : Type 0} (xs : List X) (y : X) (k : ℕ) (x : X) → slice_get xs k ≡ Some x
    → slice_get (xs ++ y ∷ []) k ≡ Some x
before_end [] y k z e = absurd (nothing e)
before_end (x ∷ xs) y zero z e = e
before_end (x ∷ xs) y (suc k) z e = before_end xs y k z e

pub below_or_at : (k n : ℕ) → k < n + 1 → (k < n) ⊎ (k ≡ n)
below_or_at k n lt = grind arith

pub at_or_not : (k n : ℕ) → (k ≡ n) ⊎ (k ≢ n)
at_or_not k n = grind arith
