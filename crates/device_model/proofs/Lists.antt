-- Lists of which one item is changed.
use Rattle.std.proofs.Common.{◌≡◌, ℕ, false, true, eqb, List, [], ◌∷◌, Some, None, refl, sym, ◌∙◌, ap, zero, suc, inl, inr}
use Rattle.std.specs.Prelude.{slice_get, ◌⊎◌}
use Rattle.std.proofs.lemmas.Bool.{eqb-true}
use Rattle.std.proofs.Math.Dec.{eqb-suc-zero, eqb-zero-suc, eqb-suc-suc}
use Rattle.device_model.specs.World.{change}

pub nothing : {X : Type 0} {x : X} → None ≡ Some x → ⊥
nothing e = cc

pub same : {X : Type 0} {x y : X} → Some x ≡ Some y → x ≡ y
same e = cc

-- the item that was changed
pub get_change : {X : Type 0} (g : X → X) (k : ℕ) (xs : List X) (x : X) → slice_get xs k ≡ Some x
    → slice_get (change g k xs) k ≡ Some (g x)
get_change g k [] x e = absurd (nothing e)
get_change g zero (y ∷ xs) x e = ap (λ z. Some (g z)) (same e)
get_change g (suc k) (y ∷ xs) x e = get_change g k xs x e

-- any other
pub get_other : {X : Type 0} (g : X → X) (k : ℕ) (xs : List X) (i : ℕ) → eqb k i ≡ false
    → slice_get (change g k xs) i ≡ slice_get xs i
get_other g k [] i e = refl
get_other g zero (x ∷ xs) zero e = absurd (cc)
get_other g zero (x ∷ xs) (suc i) e = refl
get_other g (suc k) (x ∷ xs) zero e = refl
get_other g (suc k) (x ∷ xs) (suc i) e = get_other g k xs i (sym (eqb-suc-suc k i) ∙ e)

-- what a change keeps of each item
pub stays : {X Y : Type 0} (f : X → Y) (g : X → X) (k : ℕ) (xs : List X) → ((x : X) → f (g x) ≡ f x) → (i : ℕ) (x : X)
    → slice_get xs i ≡ Some x → (y : X) × (slice_get (change g k xs) i ≡ Some y) × (f y ≡ f x)
stays f g k [] e i x at = absurd (nothing at)
stays f g zero (y ∷ xs) e zero x at = (g y, refl, e y ∙ ap f (same at))
stays f g zero (y ∷ xs) e (suc i) x at = (x, at, refl)
stays f g (suc k) (y ∷ xs) e zero x at = (x, at, refl)
stays f g (suc k) (y ∷ xs) e (suc i) x at = stays f g k xs e i x at

pub not_that : (k i : ℕ) → (Some k ≡ Some i → ⊥) → eqb k i ≡ false
not_that k i h =
    (elim (eqb k i) as (λ b. eqb k i ≡ b → b ≡ false) [
      | true ↦ λ e. absurd (h (ap (λ n. Some n) (eqb-true k i e)))
      | false ↦ λ e. refl
    ]) refl

-- what is there is there after the change
pub there_change : {X : Type 0} (g : X → X) (k : ℕ) (xs : List X) (i : ℕ) (x : X) → slice_get xs i ≡ Some x
    → (y : X) × (slice_get (change g k xs) i ≡ Some y)
there_change g k [] i x e = (x, e)
there_change g zero (x ∷ xs) zero z e = (g x, refl)
there_change g zero (x ∷ xs) (suc i) z e = (z, e)
there_change g (suc k) (x ∷ xs) zero z e = (x, refl)
there_change g (suc k) (x ∷ xs) (suc i) z e = there_change g k xs i z e

-- an item of the changed list is an old one, or the changed one
pub at_other : {X : Type 0} (g : X → X) (k : ℕ) (xs : List X) (i : ℕ) (y : X) → slice_get (change g k xs) i ≡ Some y
    → (x : X) × (slice_get xs i ≡ Some x) × (((i ≡ k) × (y ≡ g x)) ⊎ ((eqb k i ≡ false) × (y ≡ x)))
at_other g k [] i y e = absurd (nothing e)
at_other g zero (x ∷ xs) zero y e = (x, refl, inl (refl, sym (same e)))
at_other g zero (x ∷ xs) (suc i) y e = (y, e, inr (eqb-zero-suc i, refl))
at_other g (suc k) (x ∷ xs) zero y e = (x, refl, inr (eqb-suc-zero k, sym (same e)))
at_other g (suc k) (x ∷ xs) (suc i) y e =
    let h = at_other g k xs i y e in
    (h.0, h.1, elim h.2 [ inl q ↦ inl (ap (λ n. suc n) q.0, q.1) | inr q ↦ inr (eqb-suc-suc k i ∙ q.0, q.1) ])
