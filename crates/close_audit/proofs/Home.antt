-- What is known of a task where one unit alone has steps of it.
use Rattle.std.proofs.Common.{◌≡◌, ℕ, zero, suc, Bool, true, false, not, ◌&&◌, ◌||◌, List, [], ◌∷◌, Some, refl, sym, ap, ◌∙◌}
use Rattle.std.specs.Prelude.{slice_get}
use Rattle.std.specs.List.{list_any, list_all}
use Rattle.close_audit.specs.Words.{in_two}
use Rattle.close_audit.proofs.Bools.{or_false, and_true, is_false, clash, split_false}

-- of two, one
pub two_any : {X : Type 0} (p : X → Bool) (xs : List X) → (list_any p xs || in_two p xs) ≡ list_any p xs
two_any p [] = refl
two_any p (x ∷ xs) =
    elim (p x) as (λ b. ((b || list_any p xs) || ((b && list_any p xs) || in_two p xs)) ≡ (b || list_any p xs)) [ true ↦ refl | false ↦ two_any p xs ]

none_of : {X : Type 0} (p q : X → Bool) (xs : List X) → ((x : X) → p x ≡ true → q x ≡ true) → list_any q xs ≡ false → list_any p xs ≡ false
none_of p q [] f none = refl
none_of p q (x ∷ xs) f none =
    let parts = split_false (q x) (list_any q xs) none in
    ap (λ b. b || list_any p xs) (is_false (p x) (λ e. clash (sym (f x e) ∙ parts.0))) ∙ none_of p q xs f parts.1

all_none : {X : Type 0} (p w : X → Bool) (xs : List X) → list_any p xs ≡ false → list_all (λ x. not (p x) || w x) xs ≡ true
all_none p w [] none = refl
all_none p w (x ∷ xs) none =
    let parts = split_false (p x) (list_any p xs) none in
    ap (λ b. (not b || w x) && list_all (λ y. not (p y) || w y) xs) parts.0 ∙ all_none p w xs parts.1

-- The Enter, Commit and Busy of a task, its steps, and what its end has to be:
module _ {X : Type 0} (enters runs rests steps w : X → Bool) (ends : Bool → Bool → Bool)
    (of_enter : (x : X) → enters x ≡ true → steps x ≡ true) (of_run : (x : X) → runs x ≡ true → steps x ≡ true)
    (of_rest : (x : X) → rests x ≡ true → steps x ≡ true) where
  abbrev Each : List X → Type 0
  Each xs = (k : ℕ) (x : X) → slice_get xs k ≡ Some x → enters x ≡ true → w x ≡ ends (runs x) (rests x)

  -- the first has its Enter, and no other a step of it
  here : (x : X) (xs : List X) → steps x ≡ true → enters x ≡ true → w x ≡ ends (runs x) (rests x) → list_any steps xs ≡ false
      → ((not (enters x) || w x) && list_all (λ y. not (enters y) || w y) xs)
      ≡ (not (enters x || list_any enters xs) || ends (runs x || list_any runs xs) (rests x || list_any rests xs))
  here x xs at e is none =
      ap (λ b. (not b || w x) && list_all (λ y. not (enters y) || w y) xs) e
      ∙ ap (λ b. w x && b) (all_none enters w xs (none_of enters steps xs of_enter none))
      ∙ and_true (w x) ∙ is
      ∙ ap (λ b. ends b (rests x)) (sym (ap (λ b. runs x || b) (none_of runs steps xs of_run none) ∙ or_false (runs x)))
      ∙ ap (λ b. ends (runs x || list_any runs xs) b) (sym (ap (λ b. rests x || b) (none_of rests steps xs of_rest none) ∙ or_false (rests x)))
      ∙ ap (λ b. not (b || list_any enters xs) || ends (runs x || list_any runs xs) (rests x || list_any rests xs)) (sym e)

  -- it has another step of it, and no other any
  lone : (x : X) (xs : List X) → enters x ≡ false → list_any steps xs ≡ false
      → ((not (enters x) || w x) && list_all (λ y. not (enters y) || w y) xs)
      ≡ (not (enters x || list_any enters xs) || ends (runs x || list_any runs xs) (rests x || list_any rests xs))
  lone x xs e none =
      let gone = none_of enters steps xs of_enter none in
      ap (λ b. (not b || w x) && list_all (λ y. not (enters y) || w y) xs) e
      ∙ all_none enters w xs gone
      ∙ ap (λ b. not b || ends (runs x || list_any runs xs) (rests x || list_any rests xs)) (sym (ap (λ b. b || list_any enters xs) e ∙ gone))

  pub where_one : (xs : List X) → Each xs → in_two steps xs ≡ false
      → list_all (λ y. not (enters y) || w y) xs ≡ (not (list_any enters xs) || ends (list_any runs xs) (list_any rests xs))
  where_one [] each one = refl
  where_one (x ∷ xs) each one =
      let parts = split_false (steps x && list_any steps xs) (in_two steps xs) one in
      elim (steps x) as (λ b. (steps x ≡ b) → ((not (enters x) || w x) && list_all (λ y. not (enters y) || w y) xs)
      ≡ (not (enters x || list_any enters xs) || ends (runs x || list_any runs xs) (rests x || list_any rests xs))) [
        | true ↦ λ at.
            let none : list_any steps xs ≡ false = sym (ap (λ b. b && list_any steps xs) at) ∙ parts.0 in
            (elim (enters x) as (λ b. (enters x ≡ b) → ((not (enters x) || w x) && list_all (λ y. not (enters y) || w y) xs)
            ≡ (not (enters x || list_any enters xs) || ends (runs x || list_any runs xs) (rests x || list_any rests xs))) [
              | true ↦ λ e. here x xs at e (each zero x refl e) none
              | false ↦ λ e. lone x xs e none
            ]) refl
        | false ↦ λ at.
            let off : enters x ≡ false = is_false (enters x) (λ e. clash (sym (of_enter x e) ∙ at)) in
            let idle : runs x ≡ false = is_false (runs x) (λ e. clash (sym (of_run x e) ∙ at)) in
            let calm : rests x ≡ false = is_false (rests x) (λ e. clash (sym (of_rest x e) ∙ at)) in
            ap (λ b. (not b || w x) && list_all (λ y. not (enters y) || w y) xs) off
            ∙ where_one xs (λ k y q. each (suc k) y q) parts.1
            ∙ ap (λ b. not (b || list_any enters xs) || ends (list_any runs xs) (list_any rests xs)) (sym off)
            ∙ ap (λ b. not (enters x || list_any enters xs) || ends (b || list_any runs xs) (list_any rests xs)) (sym idle)
            ∙ ap (λ b. not (enters x || list_any enters xs) || ends (runs x || list_any runs xs) (b || list_any rests xs)) (sym calm)
      ] refl
