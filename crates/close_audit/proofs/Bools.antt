-- Small facts of tests.
use Rattle.std.proofs.Common.{◌≡◌, ℕ, zero, suc, Bool, true, false, not, ◌&&◌, ◌||◌, List, [], ◌∷◌, Some, refl, sym, ap, ◌∙◌}
use Rattle.std.proofs.lemmas.Option.{same_Some}
use Rattle.std.specs.Prelude.{slice_get}
use Rattle.std.specs.List.{list_any, list_all}

pub or_false : (a : Bool) → (a || false) ≡ a
or_false true = refl
or_false false = refl

pub and_false : (a : Bool) → (a && false) ≡ false
and_false true = refl
and_false false = refl

pub and_true : (a : Bool) → (a && true) ≡ a
and_true true = refl
and_true false = refl

pub or_true : (a : Bool) → (a || true) ≡ true
or_true true = refl
or_true false = refl

pub or_over : (a b c : Bool) → ((a || b) || c) ≡ (a || (b || c))
or_over true b c = refl
or_over false b c = refl

pub or_comm : (a b : Bool) → (a || b) ≡ (b || a)
or_comm true b = sym (or_true b)
or_comm false b = sym (or_false b)

pub and_over : (a b c : Bool) → ((a && b) && c) ≡ (a && (b && c))
and_over true b c = refl
and_over false b c = refl

pub and_or : (a b c : Bool) → (a && (b || c)) ≡ ((a && b) || (a && c))
and_or true b c = refl
and_or false b c = refl

pub not_or : (a b : Bool) → not (a || b) ≡ (not a && not b)
not_or true b = refl
not_or false b = refl

pub not_true : (a : Bool) → not a ≡ false → a ≡ true
not_true true e = refl
not_true false e = absurd (cc)

pub not_false : (a : Bool) → not a ≡ true → a ≡ false
not_false true e = absurd (cc)
not_false false e = refl

pub split_true : (a b : Bool) → (a && b) ≡ true → (a ≡ true) × (b ≡ true)
split_true true b e = (refl, e)
split_true false b e = absurd (cc)

pub split_false : (a b : Bool) → (a || b) ≡ false → (a ≡ false) × (b ≡ false)
split_false true b e = absurd (cc)
split_false false b e = (refl, e)

-- where the first holds, so does the second
pub unless_true : (a b : Bool) → (not a || b) ≡ true → a ≡ true → b ≡ true
unless_true true b e f = e
unless_true false b e f = absurd (cc)

-- where the first holds and the other's negation doesn't, the other does
pub only_true : (a b : Bool) → (a && not b) ≡ false → a ≡ true → b ≡ true
only_true true true e f = refl
only_true true false e f = absurd (cc)
only_true false b e f = absurd (cc)

pub is_false : (a : Bool) → (a ≡ true → ⊥) → a ≡ false
is_false true f = absurd (f refl)
is_false false f = refl

pub is_true : (a : Bool) → (a ≡ false → ⊥) → a ≡ true
is_true true f = refl
is_true false f = absurd (f refl)

pub clash : true ≡ false → ⊥
clash e = cc

shuffle : (a b c d : Bool) → ((a && b) && (c && d)) ≡ ((a && c) && (b && d))
shuffle true true c d = refl
shuffle true false true d = refl
shuffle true false false d = refl
shuffle false b c d = refl

-- no item passes a test where each passes two others
pub none_where_all : {X : Type 0} (f g h : X → Bool) (xs : List X) → list_all (λ x. true) xs ≡ true → ((x : X) → not (f x) ≡ (g x && h x)) → not (list_any f xs) ≡ (list_all g xs && list_all h xs)
none_where_all f g h [] k e = refl
none_where_all f g h (x ∷ xs) k e =
    not_or (f x) (list_any f xs) ∙ ap (λ c. c && not (list_any f xs)) (e x) ∙ ap (λ c. (g x && h x) && c) (none_where_all f g h xs k e)
    ∙ shuffle (g x) (h x) (list_all g xs) (list_all h xs)

-- what each item passes, one does
pub all_at : {X : Type 0} (p : X → Bool) (xs : List X) (k : ℕ) (x : X) → list_all p xs ≡ true → slice_get xs k ≡ Some x → p x ≡ true
all_at p [] k x all e = absurd (cc)
all_at p (y ∷ ys) zero x all e = ap p (sym (same_Some y x e)) ∙ (split_true (p y) (list_all p ys) all).0
all_at p (y ∷ ys) (suc k) x all e = all_at p ys k x (split_true (p y) (list_all p ys) all).1 e
