-- Going on by one part.
use Rattle.std.proofs.Common.{◌≡◌, ℕ, zero, suc, ◌+◌, ◌-◌, ◌<◌, ◌≤◌, List, [], ◌∷◌, ◌++◌, length, take, get_or, cond, min, refl, ap, arith}
use Rattle.std.proofs.lemmas.List.{take_more, append-nil, length-take-le}
use Rattle.std.proofs.lemmas.List.Concat.{flat_map-append}
use Rattle.std.proofs.lemmas.List.Sums.{sum_by-append, sum_by-take-le}
use Rattle.std.specs.List.{flat_map}
use Rattle.ring_core.specs.Parts.{readable_of, readable_bytes, readable_total}
use Rattle.ring_core.specs.declared.descriptor.Part.{Part}

-- the first n of two lists end to end
pub take_both : {X : Type 0} (n : ℕ) (xs ys : List X) → take n (xs ++ ys) ≡ take n xs ++ take (n - length (take n xs)) ys
take_both zero xs ys = refl
take_both (suc n) [] ys = let e : suc n - 0 ≡ suc n = omega arith in rw e refl
take_both (suc n) (x ∷ xs) ys =
    let e : suc n - suc (length (take n xs)) ≡ n - length (take n xs) = omega arith in
    rw e (ap (λ (zs : List _). x ∷ zs) (take_both n xs ys))

flat_map_one : {X Y : Type 0} (f : X → List Y) (x : X) → flat_map f (x ∷ []) ≡ f x
flat_map_one f x = append-nil (f x)

pub gather_more : (m : List ℕ) (parts : List Part) (i most : ℕ) (d : Part) → i < length parts
    → take most (readable_bytes m (take (i + 1) parts))
    ≡ take most (readable_bytes m (take i parts)) ++ take (most - length (take most (readable_bytes m (take i parts)))) (readable_of m (get_or parts i d))
gather_more m parts i most d lt =
    let one : flat_map (readable_of m) (get_or parts i d ∷ []) ≡ readable_of m (get_or parts i d) = flat_map_one (readable_of m) (get_or parts i d) in
    rw (take_more parts i d lt, flat_map-append, one) (take_both most (readable_bytes m (take i parts)) (readable_of m (get_or parts i d)))

-- the readable bytes of the first parts, and of one more
readable_more : (parts : List Part) (i : ℕ) (d : Part) → i < length parts
    → readable_total (take (i + 1) parts) ≡ readable_total (take i parts) + cond (get_or parts i d).writable 0 (get_or parts i d).len
readable_more parts i d lt =
    rw (take_more parts i d lt)
    (omega (arith, sum_by-append (λ (p : Part). cond p.writable 0 p.len) (take i parts) (get_or parts i d ∷ [])))

-- where the first parts end, and one more
pub end_more : (parts : List Part) (i most : ℕ) (d : Part) → i < length parts
    → min (readable_total (take i parts)) most
    + min (cond (get_or parts i d).writable 0 (get_or parts i d).len) (most - min (readable_total (take i parts)) most)
    ≡ min (readable_total (take (i + 1) parts)) most
end_more parts i most d lt = rw (readable_more parts i d lt) (omega arith)

-- so many of the bytes have a place
pub end_within : (parts : List Part) (i most : ℕ) → min (readable_total (take i parts)) most ≤ min (readable_total parts) most
end_within parts i most = omega (arith, sum_by-take-le (λ (p : Part). cond p.writable 0 p.len) parts i)

-- the bytes in their places, and those of one more part
pub place_more : (m : List ℕ) (parts : List Part) (i most at : ℕ) (d : Part) (bytes : List ℕ) → i < length parts → at ≤ length bytes
    → take at bytes ≡ take most (readable_bytes m (take i parts))
    → take at bytes ++ take (most - at) (readable_of m (get_or parts i d)) ≡ take most (readable_bytes m (take (i + 1) parts))
place_more m parts i most at d bytes lt le before =
    let e : length (take at bytes) ≡ at = length-take-le at bytes le in
    let n : length (take most (readable_bytes m (take i parts))) ≡ at = rw before at e in
    rw (gather_more m parts i most d lt, n, before) refl
