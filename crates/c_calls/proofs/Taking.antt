-- Disks that are taken out of their slots one after the other, and put into them from the last on.
use Rattle.std.proofs.Common.{◌≡◌, ℕ, ◌+◌, ◌<◌, zero, suc, Bool, true, false, ◌&&◌, ◌||◌, List, [], ◌∷◌, ◌++◌, length, map, Option, Some, None, refl, sym, ap, ◌∙◌, subst, arith}
use Rattle.std.specs.Prelude.{slice_get, slice_set, slice_index_or, is_some}
use Rattle.std.specs.List.{list_all, list_any}
use Rattle.std.proofs.lemmas.Bool.{and_parts}

same : {X : Type 0} {x y : X} → Some x ≡ Some y → x ≡ y
same e = cc

-- what stands in an image is the image of what stands there
pub reads : {X Y : Type 0} (f : X → Y) (xs : List X) (k : ℕ) (d : X) (y : Y) → slice_get (map f xs) k ≡ Some y
    → f (slice_index_or xs k d) ≡ y
reads f [] k d y e = cc
reads f (x ∷ xs) zero d y e = same e
reads f (x ∷ xs) (suc k) d y e = reads f xs k d y e

pub map_set : {X Y : Type 0} (f : X → Y) (xs : List X) (k : ℕ) (x : X)
    → map f (slice_set xs k x) ≡ slice_set (map f xs) k (f x)
map_set f [] k x = refl
map_set f (y ∷ xs) zero x = refl
map_set f (y ∷ xs) (suc k) x = ap (λ ys. f y ∷ ys) (map_set f xs k x)

-- what is set in place of what has the same image leaves the images
pub put_same : {X Y : Type 0} (f : X → Y) (xs : List X) (k : ℕ) (x d : X) → f x ≡ f (slice_index_or xs k d)
    → map f (slice_set xs k x) ≡ map f xs
put_same f [] k x d e = refl
put_same f (y ∷ xs) zero x d e = ap (λ z. z ∷ map f xs) e
put_same f (y ∷ xs) (suc k) x d e = ap (λ zs. f y ∷ zs) (put_same f xs k x d e)

pub set_length : {X : Type 0} (xs : List X) (k : ℕ) (x : X) → length (slice_set xs k x) ≡ length xs
set_length [] k x = refl
set_length (y ∷ xs) zero x = refl
set_length (y ∷ xs) (suc k) x = ap (λ n. suc n) (set_length xs k x)

pub get_image : {X Y : Type 0} (f : X → Y) (xs : List X) (k : ℕ) (x : X) → slice_get xs k ≡ Some x → slice_get (map f xs) k ≡ Some (f x)
get_image f [] k x at = cc
get_image f (y ∷ xs) zero x at = ap (λ z. Some (f z)) (same at)
get_image f (y ∷ xs) (suc k) x at = get_image f xs k x at

pub any_image : {X Y : Type 0} (p : Y → Bool) (f : X → Y) (xs : List X) → list_any p (map f xs) ≡ list_any (λ x. p (f x)) xs
any_image p f [] = refl
any_image p f (x ∷ xs) = ap (λ b. p (f x) || b) (any_image p f xs)

pub end : {Y : Type 0} (ys : List Y) → ys ++ [] ≡ ys
end [] = refl
end (y ∷ ys) = ap (λ zs. y ∷ zs) (end ys)

-- what stands behind the images of some items, and what is set there
pub behind : {P Y : Type 0} (f : P → Y) (ps : List P) (y : Y) (ys : List Y) → slice_get (map f ps ++ y ∷ ys) (length ps) ≡ Some y
behind f [] y ys = refl
behind f (p ∷ ps) y ys = behind f ps y ys

pub set_behind : {P Y : Type 0} (f : P → Y) (ps : List P) (y z : Y) (ys : List Y)
    → slice_set (map f ps ++ y ∷ ys) (length ps) z ≡ map f ps ++ z ∷ ys
set_behind f [] y z ys = refl
set_behind f (p ∷ ps) y z ys = ap (λ zs. f p ∷ zs) (set_behind f ps y z ys)

-- one more image is the last
pub one_more : {P Y : Type 0} (f : P → Y) (ps : List P) (p : P) (ys : List Y) → map f (ps ++ p ∷ []) ++ ys ≡ map f ps ++ f p ∷ ys
one_more f [] p ys = refl
one_more f (q ∷ ps) p ys = ap (λ zs. f q ∷ zs) (one_more f ps p ys)

-- slots of which none has a disk are so many
pub none_there : {P : Type 0} (xs : List (Option P)) (ps : List P) → list_any is_some xs ≡ false → length xs ≡ length ps
    → xs ≡ map (λ p. None) ps
none_there [] [] none many = refl
none_there [] (p ∷ ps) none many = absurd (omega (arith, many))
none_there (x ∷ xs) [] none many = absurd (omega (arith, many))
none_there (None ∷ xs) (p ∷ ps) none many = ap (λ ys. None ∷ ys) (none_there xs ps none (omega (arith, many)))
none_there (Some y ∷ xs) (p ∷ ps) none many = cc

-- and slots of which each has one
pub record Taken {P : Type 0} (old now : List (Option P)) (stores : List P) : Type 0 where
  pub rest : List (Option P)
  pub there : list_all is_some rest ≡ true
  pub were : old ≡ map (λ s. Some s) stores ++ rest
  pub are : now ≡ map (λ s. None) stores ++ rest

module _ {P : Type 0} where
  -- so many slots are left
  pub left : (old now : List (Option P)) (stores : List P) (t : Taken old now stores) → length now ≡ length stores + length t.rest
  left old now stores t = ap length t.are ∙ many stores t.rest
    where
      many : (ps : List P) (ys : List (Option P)) → length (map (λ s. None) ps ++ ys) ≡ length ps + length ys
      many [] ys = omega (arith)
      many (p ∷ ps) ys = omega (arith, many ps ys)

  -- at the next one stands a disk
  pub next_there : (old now : List (Option P)) (stores : List P) (t : Taken old now stores) → length stores < length now
      → (s : P) × (slice_get now (length stores) ≡ Some (Some s))
  next_there old now stores t lt = at t.rest t.there t.are (omega (arith, lt, left old now stores t))
    where
      at : (rest : List (Option P)) → list_all is_some rest ≡ true → now ≡ map (λ s. None) stores ++ rest → 0 < length rest
          → (s : P) × (slice_get now (length stores) ≡ Some (Some s))
      at [] there are some = absurd (omega (arith, some))
      at (None ∷ rest) there are some = cc
      at (Some s ∷ rest) there are some = (s, ap (λ xs. slice_get xs (length stores)) are ∙ behind (λ p. None) stores (Some s) rest)

  -- and once it is taken there is one more
  pub take_next : (old now : List (Option P)) (stores : List P) (t : Taken old now stores) (s : P)
      → slice_get now (length stores) ≡ Some (Some s) → Taken old (slice_set now (length stores) None) (stores ++ s ∷ [])
  take_next old now stores t s at = go t.rest t.there t.were t.are
    where
      go : (rest : List (Option P)) → list_all is_some rest ≡ true → old ≡ map (λ s. Some s) stores ++ rest
          → now ≡ map (λ s. None) stores ++ rest → Taken old (slice_set now (length stores) None) (stores ++ s ∷ [])
      go [] there were are = absurd (nothing_behind stores (sym (ap (λ xs. slice_get xs (length stores)) are) ∙ at))
        where
          nothing_behind : (ps : List P) → slice_get (map (λ p. None) ps ++ []) (length ps) ≡ Some (Some s) → ⊥
          nothing_behind [] e = cc
          nothing_behind (p ∷ ps) e = nothing_behind ps e
      go (x ∷ rest) there were are =
          let is : x ≡ Some s = same (sym (ap (λ xs. slice_get xs (length stores)) are ∙ behind (λ p. None) stores x rest) ∙ at) in
          record {
            rest = rest;
            there = (and_parts (is_some x) (list_all is_some rest) there).1;
            were = were ∙ ap (λ y. map (λ s. Some s) stores ++ y ∷ rest) is ∙ sym (one_more (λ s. Some s) stores s rest);
            are =
                ap (λ xs. slice_set xs (length stores) None) are
                ∙ set_behind (λ p. None) stores x None rest
                ∙ sym (one_more (λ p. None) stores s rest);
          }

  -- behind the last all were taken
  pub all_taken : (old now : List (Option P)) (stores : List P) (t : Taken old now stores) → length stores ≡ length now
      → (old ≡ map (λ s. Some s) stores) × (now ≡ map (λ s. None) stores)
  all_taken old now stores t all = go t.rest t.were t.are (omega (arith, all, left old now stores t))
    where
      go : (rest : List (Option P)) → old ≡ map (λ s. Some s) stores ++ rest → now ≡ map (λ s. None) stores ++ rest → length rest ≡ 0
          → (old ≡ map (λ s. Some s) stores) × (now ≡ map (λ s. None) stores)
      go [] were are none = (were ∙ end (map (λ s. Some s) stores), are ∙ end (map (λ s. None) stores))
      go (x ∷ rest) were are none = absurd (omega (arith, none))
