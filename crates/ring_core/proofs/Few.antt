-- How many chains are outstanding.
use Rattle.std.proofs.Common.{◌≡◌, ℕ, suc, ◌+◌, ◌≤◌, List, [], ◌∷◌, length, get_or, cond, Option, Some, None, arith, sum_by, is_some, refl}
use Rattle.std.proofs.lemmas.List.Sums.{sum_by-cons}
use Rattle.ring_core.specs.Sound.{slots_of}
use Rattle.ring_core.specs.declared.outstanding.OutstandingChain.{OutstandingChain}

-- what each entry counts
abbrev one_of : Option OutstandingChain → ℕ
one_of c = cond (is_some c) 1 0

-- at most one under each head or id
pub few_by_entries : (xs : List (Option OutstandingChain)) → sum_by one_of xs ≤ length xs
few_by_entries [] = omega arith
few_by_entries (None ∷ xs) =
    let e : sum_by one_of (None ∷ xs) ≡ 0 + sum_by one_of xs = sum_by-cons one_of None xs in
    omega (arith, e, few_by_entries xs)
few_by_entries (Some c ∷ xs) =
    let e : sum_by one_of (Some c ∷ xs) ≡ 1 + sum_by one_of xs = sum_by-cons one_of (Some c) xs in
    omega (arith, e, few_by_entries xs)

-- at most one for each slot, where each has one or more
pub few_by_slots : (xs : List (Option OutstandingChain)) → ((id : ℕ) (c : OutstandingChain) → get_or xs id None ≡ Some c → 1 ≤ c.slots)
    → sum_by one_of xs ≤ sum_by slots_of xs
few_by_slots [] each = omega arith
few_by_slots (None ∷ xs) each = few_by_slots xs (λ id c e. each (suc id) c e)
few_by_slots (Some c ∷ xs) each =
    let e : sum_by one_of (Some c ∷ xs) ≡ 1 + sum_by one_of xs = sum_by-cons one_of (Some c) xs in
    let s : sum_by slots_of (Some c ∷ xs) ≡ c.slots + sum_by slots_of xs = sum_by-cons slots_of (Some c) xs in
    omega (arith, e, s, each 0 c refl, few_by_slots xs (λ id d e. each (suc id) d e))
