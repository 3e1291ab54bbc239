-- One more copy of a list behind the others.
use Rattle.std.proofs.Common.{◌≡◌, ℕ, zero, suc, ◌+◌, List, ◌++◌, sym, ◌∙◌, ap, append_assoc, append-nil, add-one}
use Rattle.std.specs.List.{repeat}

repeat_behind : (n : ℕ) (xs : List ℕ) → repeat n xs ++ xs ≡ xs ++ repeat n xs
repeat_behind zero xs = sym (append-nil xs)
repeat_behind (suc n) xs = append_assoc xs (repeat n xs) xs ∙ ap (λ (ys : List ℕ). xs ++ ys) (repeat_behind n xs)

pub repeat_more : (n : ℕ) (xs : List ℕ) → repeat (n + 1) xs ≡ repeat n xs ++ xs
repeat_more n xs = ap (λ (k : ℕ). repeat k xs) (add-one n) ∙ sym (repeat_behind n xs)
