-- What is found in a list has what every item of the list has.
use Rattle.std.proofs.Common.{◌≡◌, Bool, true, false, ◌||◌, ◌&&◌, List, [], ◌∷◌, Some, None, refl}
use Rattle.std.specs.List.{find, list_any, list_all}

pub record Found (A : Type 0) (p : A → Bool) (xs : List A) : Type 0 where
  pub item : A
  pub is : find p xs ≡ Some item
  pub passes : p item ≡ true
  pub has : (q : A → Bool) → list_all q xs ≡ true → q item ≡ true

left_true : (a b : Bool) → (a && b) ≡ true → a ≡ true
left_true true b h = refl
left_true false b h = h

right_true : (a b : Bool) → (a && b) ≡ true → b ≡ true
right_true true b h = h
right_true false b h = cc

found_in : {A : Type 0} (p : A → Bool) (x : A) (xs : List A) (b : Bool) → p x ≡ b →
    (b || list_any p xs) ≡ true → (list_any p xs ≡ true → Found A p xs) → Found A p (x ∷ xs)
found_in p x xs true is_b some rest =
    record { item = x; is = rw is_b refl; passes = is_b; has = λ q all. left_true (q x) (list_all q xs) all }
found_in p x xs false is_b some rest =
    let r = rest some in
    record {
      item = r.item;
      is = rw is_b r.is;
      passes = r.passes;
      has = λ q all. r.has q (right_true (q x) (list_all q xs) all);
    }

pub found : {A : Type 0} (p : A → Bool) (xs : List A) → list_any p xs ≡ true → Found A p xs
found p [] some = absurd (cc)
found p (x ∷ xs) some = found_in p x xs (p x) refl some (found p xs)

none_in : {A : Type 0} (p : A → Bool) (x : A) (xs : List A) (b : Bool) → p x ≡ b →
    (b || list_any p xs) ≡ false → (list_any p xs ≡ false → find p xs ≡ None) → find p (x ∷ xs) ≡ None
none_in p x xs true is_b none rest = absurd (cc)
none_in p x xs false is_b none rest = rw is_b (rest none)

pub none : {A : Type 0} (p : A → Bool) (xs : List A) → list_any p xs ≡ false → find p xs ≡ None
none p [] h = refl
none p (x ∷ xs) h = none_in p x xs (p x) refl h (none p xs)
