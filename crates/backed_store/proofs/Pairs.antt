-- Changes of pages as pairs.
use Rattle.std.proofs.Common.{◌≡◌, ℕ, ◌≤◌, ◌==◌, ◌&&◌, false, Ordering, arith}
use Rattle.std.specs.Ordering.{nat_cmp, ordering_then, is_eq, is_gt}
use Rattle.std.proofs.lemmas.Bool.Decides.{nat_tests}

-- the order of changes
abbrev pub by_number : ℕ × ℕ → ℕ × ℕ → Ordering
by_number x y = ordering_then (nat_cmp x.0 y.0) (nat_cmp x.1 y.1)

pub same-pair : (n p a b : ℕ) → is_eq (by_number (n, p) (a, b)) ≡ (a == n && b == p)
same-pair n p a b = grind (arith, nat_tests)

pub least-number : (n p a b : ℕ) → is_gt (by_number (n, p) (a, b)) ≡ false → n ≤ a
least-number n p a b not = grind (arith, nat_tests, not)
