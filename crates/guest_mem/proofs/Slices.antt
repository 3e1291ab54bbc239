-- Slices of a memory that was written.
use Rattle.std.proofs.Common.{◌≡◌, ℕ, ◌+◌, ◌-◌, ◌≤◌, List, ◌++◌, length, take, drop, sym, ap, ◌∙◌, arith, ◌⊎◌, inl, inr, append_assoc, length-append}
use Rattle.std.proofs.lemmas.List.{drop-append-le, take-append-le, drop-take, length-take-le, length-drop, take-take, drop-drop}
use Rattle.std.proofs.lemmas.Slice.{drop-append-drop}
use Rattle.guest_mem.specs.Memory.{bytes_at, with_bytes}

before : (m : List ℕ) (addr : ℕ) (rest : List ℕ) (at n : ℕ) → addr ≤ length m → at + n ≤ addr → take n (drop at (take addr m ++ rest)) ≡ take n (drop at m)
before m addr rest at n inside le =
    let front : length (take addr m) ≡ addr = length-take-le addr m inside in
    let one : drop at (take addr m ++ rest) ≡ drop at (take addr m) ++ rest = drop-append-le at (take addr m) rest (omega (arith, front)) in
    let left : length (drop at (take addr m)) ≡ addr - at = omega (arith, length-drop at (take addr m), front) in
    let two : take n (drop at (take addr m) ++ rest) ≡ take n (drop at (take addr m)) = take-append-le n (drop at (take addr m)) rest (omega (arith, left)) in
    let e : addr ≡ at + (addr - at) = omega arith in
    let three : drop at (take addr m) ≡ take (addr - at) (drop at m) = ap (λ (k : ℕ). drop at (take k m)) e ∙ drop-take at (addr - at) m in
    ap (take n) one ∙ two ∙ ap (take n) three ∙ take-take n (addr - at) (drop at m) (omega arith)

behind : (m : List ℕ) (addr : ℕ) (bs : List ℕ) (at : ℕ) → addr + length bs ≤ length m → addr + length bs ≤ at → drop at (with_bytes m addr bs) ≡ drop at m
behind m addr bs at inside le =
    let front : length (take addr m) ≡ addr = length-take-le addr m (omega arith) in
    let e : with_bytes m addr bs ≡ (take addr m ++ bs) ++ drop (addr + length bs) m = ap (λ (r : List ℕ). take addr m ++ (bs ++ r)) (drop-drop (length bs) addr m) ∙ sym (append_assoc (take addr m) bs (drop (addr + length bs) m)) in
    ap (drop at) e ∙ drop-append-drop (addr + length bs) m (take addr m ++ bs) at le (omega (arith, length-append (take addr m) bs, front))

pub other_bytes : (m : List ℕ) (addr : ℕ) (bs : List ℕ) (at n : ℕ) → addr + length bs ≤ length m → (at + n ≤ addr) ⊎ (addr + length bs ≤ at) → bytes_at (with_bytes m addr bs) at n ≡ bytes_at m at n
other_bytes m addr bs at n inside (inl le) = before m addr (bs ++ drop (length bs) (drop addr m)) at n (omega arith) le
other_bytes m addr bs at n inside (inr le) = ap (take n) (behind m addr bs at inside le)
