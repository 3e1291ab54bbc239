-- Stores, byte by byte.
use Rattle.std.proofs.Common.{◌≡◌, ℕ, ◌+◌, ◌≤◌, List, [], ◌∷◌, ◌++◌, length, take, drop, sym, ap, ◌∙◌, arith, append_assoc, length-append}
use Rattle.std.proofs.lemmas.List.{take_at, drop_at, take-append-drop, drop-drop, length-take-le, length-drop}
use Rattle.guest_mem.specs.Memory.{with_bytes}
use Rattle.guest_mem.specs.Stores.{stores_at, all_stored}

length_with : (m : List ℕ) (x : ℕ) (bs : List ℕ) → x + length bs ≤ length m → length (with_bytes m x bs) ≡ length m
length_with m x bs le = omega (arith, length-append (take x m) (bs ++ drop (length bs) (drop x m)), length-append bs (drop (length bs) (drop x m)), length-take-le x m (omega arith), length-drop (length bs) (drop x m), length-drop x m)

-- a write, and one at its end
pub with_more : (m : List ℕ) (x : ℕ) (a b : List ℕ) → x ≤ length m → with_bytes (with_bytes m x a) (x + length a) b ≡ with_bytes m x (a ++ b)
with_more m x a b le =
    let front : List ℕ = take x m ++ a in
    let rest : List ℕ = drop (length a) (drop x m) in
    let is : with_bytes m x a ≡ front ++ rest = sym (append_assoc (take x m) a rest) in
    let long : length front ≡ x + length a = omega (arith, length-append (take x m) a, length-take-le x m le) in
    let t : take (x + length a) (with_bytes m x a) ≡ front = ap (take (x + length a)) is ∙ take_at front rest (x + length a) long in
    let d : drop (x + length a) (with_bytes m x a) ≡ rest = ap (drop (x + length a)) is ∙ drop_at front rest (x + length a) long in
    let e : drop (length b) rest ≡ drop (length (a ++ b)) (drop x m) = drop-drop (length b) (length a) (drop x m) ∙ ap (λ (k : ℕ). drop k (drop x m)) (sym (length-append a b)) in
    ap (λ (f : List ℕ). f ++ (b ++ drop (length b) (drop (x + length a) (with_bytes m x a)))) t
    ∙ ap (λ (r : List ℕ). front ++ (b ++ drop (length b) r)) d
    ∙ ap (λ (r : List ℕ). front ++ (b ++ r)) e
    ∙ append_assoc (take x m) a (b ++ drop (length (a ++ b)) (drop x m))
    ∙ ap (λ (r : List ℕ). take x m ++ r) (sym (append_assoc a b (drop (length (a ++ b)) (drop x m))))

-- bytes that lie inside are stored as one write of them leaves memory
pub stored_whole : (m : List ℕ) (x : ℕ) (bs : List ℕ) → x + length bs ≤ length m → with_bytes m x bs ≡ all_stored m (stores_at x bs)
stored_whole m x [] inside = take-append-drop x m
stored_whole m x (b ∷ bs) inside =
    sym (with_more m x (b ∷ []) bs (omega (arith, inside)))
    ∙ stored_whole (with_bytes m x (b ∷ [])) (x + 1) bs (omega (arith, inside, length_with m x (b ∷ []) (omega (arith, inside))))
