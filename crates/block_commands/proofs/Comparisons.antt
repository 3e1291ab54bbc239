-- The first byte in which two lists differ.
use Rattle.std.proofs.Common.{◌≡◌, ◌≢◌, ℕ, suc, ◌+◌, ◌-◌, ◌<◌, ◌≤◌, true, false, Bool, cond, List, [], ◌∷◌, ◌++◌, length, get_or, refl, sym, ap, ◌∙◌, arith, eqb, ltb, Option, Some, None, length-append, length-take}
use Rattle.std.specs.Prelude.{not, nat_lt}
use Rattle.std.specs.List.{zip, prefix_len}
use Rattle.std.proofs.lemmas.Bool.{eq-eqb, ltb-true, ltb-false}
use Rattle.std.proofs.lemmas.List.Folds.{prefix_len-append, length-prefix_len}
use Rattle.block_store.specs.Blocks.{Blocks, run}
use Rattle.std.proofs.lemmas.Bool.Decides.{nat_tests}
use Rattle.std.proofs.lemmas.List.Sums.{prefix_len_is}
use Rattle.std.proofs.lemmas.Slice.Zip.{length-zip, get_or-zip}
use Rattle.command_model.specs.Comparing.{first_unequal}

-- whether a pair is of equal bytes, as `first_unequal` asks it
abbrev equal : ℕ × ℕ → Bool
equal pair = not (not (eqb pair.0 pair.1))

module _ (l r : List ℕ) (k : ℕ) (on_left : k < length l) (on_right : k < length r) where
  equal-at : get_or l k 0 ≡ get_or r k 0 → equal (get_or (zip l r) k (0, 0)) ≡ true
  equal-at same = rw (get_or-zip l r k (0, 0) on_left on_right, eq-eqb (get_or l k 0) (get_or r k 0) same) refl

-- and so at an index before
equal_before : (l r : List ℕ) (k : ℕ) → k < length l → k < length r → (j : ℕ) → j < k → get_or l j 0 ≡ get_or r j 0 → equal (get_or (zip l r) j (0, 0)) ≡ true
equal_before l r k on_left on_right j before same = equal-at l r j (omega arith) (omega arith) same

module _ (l r : List ℕ) (k : ℕ) (on_left : k < length l) (on_right : k < length r) where
  unequal-at : get_or l k 0 ≢ get_or r k 0 → equal (get_or (zip l r) k (0, 0)) ≡ false
  unequal-at differ =
      let test : eqb (get_or l k 0) (get_or r k 0) ≡ false = grind (arith, nat_tests) in
      rw (get_or-zip l r k (0, 0) on_left on_right, test) refl

  first_equal : ((j : ℕ) → j < k → get_or l j 0 ≡ get_or r j 0) → get_or l k 0 ≢ get_or r k 0 → k < length (zip l r) → prefix_len equal (zip l r) ≡ k
  first_equal same differ inside =
      prefix_len_is equal (zip l r) k (0, 0) (omega arith)
      (λ j before. equal_before l r k on_left on_right j before (same j before))
      (λ _. unequal-at differ)

  pub first_unequal-at : ((j : ℕ) → j < k → get_or l j 0 ≡ get_or r j 0) → get_or l k 0 ≢ get_or r k 0 → first_unequal l r ≡ Some k
  first_unequal-at same differ =
      let inside : k < length (zip l r) = rw (length-zip l r) (omega arith) in
      let index : prefix_len equal (zip l r) ≡ k = first_equal same differ inside in
      let test : nat_lt k (length (zip l r)) ≡ true = grind (arith, nat_tests) in
      rw (index, test) refl

all_equal : (l : List ℕ) → prefix_len equal (zip l l) ≡ length (zip l l)
all_equal l =
    let long : length (zip l l) ≡ length l = rw (length-zip l l) (omega arith) in
    prefix_len_is equal (zip l l) (length (zip l l)) (0, 0) (omega arith)
    (λ j before. equal-at l l j (omega arith) (omega arith) refl)
    (λ past. absurd (omega arith))

pub first_unequal-none : (l : List ℕ) → first_unequal l l ≡ None
first_unequal-none l =
    let test : nat_lt (length (zip l l)) (length (zip l l)) ≡ false = grind (arith, nat_tests) in
    rw (all_equal l, test) refl

-- the index found in a list of so many, where so many before it don't pass
abbrev found : ℕ → ℕ → Option ℕ
found n all = cond (ltb n all) (Some n) None

-- an index, counted from so many before
abbrev pub shifted : ℕ → Option ℕ → Option ℕ
shifted k None = None
shifted k (Some n) = Some (k + n)

found-behind : (n all m more : ℕ) → n ≤ all → found n all ≡ None →
    found (cond (eqb n all) (all + m) n) (all + more) ≡ shifted all (found m more)
found-behind n all m more le none =
    elim (ltb n all) as (λ b. ltb n all ≡ b → cond b (Some n) None ≡ None → found (cond (eqb n all) (all + m) n) (all + more) ≡ shifted all (found m more)) [
      | true ↦ λ e some. absurd (cc)
      | false ↦ λ e _.
          let same : n ≡ all = (let h = ltb-false n all e in omega (arith, h, le)) in
          let test : eqb n all ≡ true = eq-eqb n all same in
          rw test (later m more)
    ] refl none
  where
    later : (m more : ℕ) → found (all + m) (all + more) ≡ shifted all (found m more)
    later m more =
        elim (ltb m more) as (λ b. ltb m more ≡ b → found (all + m) (all + more) ≡ shifted all (cond b (Some m) None)) [
          | true ↦ λ e. (let h = ltb-true m more e in let test : ltb (all + m) (all + more) ≡ true = grind (arith, nat_tests) in rw test refl)
          | false ↦ λ e. (let h = ltb-false m more e in let test : ltb (all + m) (all + more) ≡ false = grind (arith, nat_tests) in rw test refl)
        ] refl

found-before : (n all m more k : ℕ) → found n all ≡ Some k → found (cond (eqb n all) (all + m) n) (all + more) ≡ Some k
found-before n all m more k some =
    elim (ltb n all) as (λ b. ltb n all ≡ b → cond b (Some n) None ≡ Some k → found (cond (eqb n all) (all + m) n) (all + more) ≡ Some k) [
      | true ↦ λ e is.
          let h = ltb-true n all e in
          let other : eqb n all ≡ false = grind (arith, nat_tests) in
          let test : ltb n (all + more) ≡ true = grind (arith, nat_tests) in
          rw (other, test) is
      | false ↦ λ e is. absurd (cc)
    ] refl some

zip-append : (a b x y : List ℕ) → length a ≡ length b → zip (a ++ x) (b ++ y) ≡ zip a b ++ zip x y
zip-append [] [] x y same = refl
zip-append (p ∷ a) (q ∷ b) x y same = ap (λ l. (p, q) ∷ l) (zip-append a b x y (omega arith))
zip-append [] (q ∷ b) x y same = absurd (omega arith)
zip-append (p ∷ a) [] x y same = absurd (omega arith)

prefix_len-le : {X : Type 0} (p : X → Bool) (xs : List X) → prefix_len p xs ≤ length xs
prefix_len-le p xs = omega (arith, length-prefix_len p xs, length-take (prefix_len p xs) xs)

-- Two lists that begin with as many bytes each.
module _ (a b x y : List ℕ) (same : length a ≡ length b) where
  whole : length (zip a b) ≡ length a
  whole = rw (length-zip a b) (omega arith)

  -- the comparison, by how many pairs are equal
  by_count : first_unequal (a ++ x) (b ++ y)
      ≡ found (cond (eqb (prefix_len equal (zip a b)) (length (zip a b))) (length (zip a b) + prefix_len equal (zip x y)) (prefix_len equal (zip a b)))
      (length (zip a b) + length (zip x y))
  by_count = rw (zip-append a b x y same, prefix_len-append equal (zip a b) (zip x y), length-append (zip a b) (zip x y)) refl

  pub first_unequal-behind : first_unequal a b ≡ None → first_unequal (a ++ x) (b ++ y) ≡ shifted (length a) (first_unequal x y)
  first_unequal-behind none =
      by_count
      ∙ found-behind (prefix_len equal (zip a b)) (length (zip a b)) (prefix_len equal (zip x y)) (length (zip x y)) (prefix_len-le equal (zip a b)) none
      ∙ ap (λ n. shifted n (first_unequal x y)) whole

  pub first_unequal-before : (k : ℕ) → first_unequal a b ≡ Some k → first_unequal (a ++ x) (b ++ y) ≡ Some k
  first_unequal-before k some =
      by_count ∙ found-before (prefix_len equal (zip a b)) (length (zip a b)) (prefix_len equal (zip x y)) (length (zip x y)) k some

pub shifted-shifted : (j k : ℕ) (x : Option ℕ) → shifted j (shifted k x) ≡ shifted (j + k) x
shifted-shifted j k None = refl
shifted-shifted j k (Some n) = ap (λ m. Some m) (omega arith)

-- Runs of blocks of 512 bytes from one block on, and from another.
module _ (f g : Blocks) (lba i n : ℕ) (inside : i < n) (on_left : length (f i) ≡ 512) (on_right : length (g (lba + i)) ≡ 512) where
  first_block : (h : Blocks) (first : ℕ) → run h first (n - i) ≡ h first ++ run h (first + 1) (n - (i + 1))
  first_block h first =
      let more : n - i ≡ suc (n - (i + 1)) = omega (arith, inside) in
      ap (λ k. run h first k) more

  pub run_unequal-behind : first_unequal (f i) (g (lba + i)) ≡ None →
      first_unequal (run f i (n - i)) (run g (lba + i) (n - i))
      ≡ shifted 512 (first_unequal (run f (i + 1) (n - (i + 1))) (run g (lba + (i + 1)) (n - (i + 1))))
  run_unequal-behind none =
      let next : lba + i + 1 ≡ lba + (i + 1) = omega arith in
      rw (first_block f i, first_block g (lba + i))
      (first_unequal-behind (f i) (g (lba + i)) (run f (i + 1) (n - (i + 1))) (run g (lba + i + 1) (n - (i + 1))) (on_left ∙ sym on_right) none
      ∙ rw (on_left, next) refl)

  pub run_unequal-before : (k : ℕ) → first_unequal (f i) (g (lba + i)) ≡ Some k →
      first_unequal (run f i (n - i)) (run g (lba + i) (n - i)) ≡ Some k
  run_unequal-before k some =
      rw (first_block f i, first_block g (lba + i))
      (first_unequal-before (f i) (g (lba + i)) (run f (i + 1) (n - (i + 1))) (run g (lba + i + 1) (n - (i + 1))) (on_left ∙ sym on_right) k some)
