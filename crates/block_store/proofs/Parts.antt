-- Parts of a list, and of one with another list written over a part of it.
use Rattle.std.proofs.Common.{◌≡◌, ℕ, ◌+◌, ◌≤◌, List, ◌++◌, length, take, drop, refl, sym, ◌∙◌, ap, arith, length-drop}
use Rattle.std.proofs.lemmas.List.{drop-drop, drop-take, take-append-le, drop-append-le, length-take-le}
use Rattle.std.proofs.Math.Seq.{take-add, drop-append-add}
use Rattle.std.proofs.lemmas.Slice.{take-put_mid_below, drop-put_mid}
use borrow.Rule.Slice.PartMut.{put_mid, post_of}

-- two parts that lie side by side are one
pub join_parts : (l : List ℕ) (at n m : ℕ) → take n (drop at l) ++ take m (drop (at + n) l) ≡ take (n + m) (drop at l)
join_parts l at n m = rw (take-add n m (drop at l), drop-drop n at l) refl

-- a part before what was written
pub part_before : (a k : ℕ) (xs ys : List ℕ) (at n : ℕ) → at + n ≤ a → a ≤ length xs → take n (drop at (put_mid a k xs ys)) ≡ take n (drop at xs)
part_before a k xs ys at n before within =
    sym (drop-take at n (put_mid a k xs ys)) ∙ ap (λ l. drop at l) (take-put_mid_below a k xs ys (at + n) before within) ∙ drop-take at n xs

-- a part behind what was written
pub part_behind : (a k : ℕ) (xs ys : List ℕ) (at n : ℕ) → a + k ≤ at → a ≤ length xs → length ys ≡ k → take n (drop at (put_mid a k xs ys)) ≡ take n (drop at xs)
part_behind a k xs ys at n behind within len = ap (λ l. take n l) (drop-put_mid a k xs ys at behind within len)

-- a part of what was written
pub part_inside : (a k : ℕ) (xs ys : List ℕ) (o n : ℕ) → o + n ≤ length ys → a ≤ length xs → take n (drop (a + o) (put_mid a k xs ys)) ≡ take n (drop o ys)
part_inside a k xs ys o n inside within =
    let len : length (take a xs) ≡ a = length-take-le a xs within in
    let position : drop (a + o) (put_mid a k xs ys) ≡ drop o (ys ++ post_of a k xs) =
    ap (λ i. drop (i + o) (put_mid a k xs ys)) (sym len) ∙ drop-append-add (take a xs) (ys ++ post_of a k xs) o in
    let cut : drop o (ys ++ post_of a k xs) ≡ drop o ys ++ post_of a k xs = drop-append-le o ys (post_of a k xs) (omega arith) in
    let fits : n ≤ length (drop o ys) = rw (length-drop o ys) (omega arith) in
    ap (λ l. take n l) (position ∙ cut) ∙ take-append-le n (drop o ys) (post_of a k xs) fits
