-- One slot on, in a ring that is gone round and round.
use Rattle.std.proofs.Common.{◌≡◌, ℕ, ◌+◌, ◌*◌, ◌/◌, ◌%◌, ◌<◌, ◌≤◌, ◌==◌, not, cond, nat_lt, nat_eq, Bool, true, false, IsTrue, ◌↔◌, sym, ◌∙◌, ap, subst, rules, arith, add_assoc, bit_and}
use Rattle.std.proofs.lemmas.Grind.{common_steps}
use Rattle.std.proofs.lemmas.Bool.Decides.{nat_tests}
use Rattle.std.proofs.Math.Nat.{mod-lt}
use Rattle.std.proofs.lemmas.Nat.{div-mul-add, mod-mul-add, div-add-mod'}
use Rattle.ring_core.specs.Packed.{used_flags}
use Rattle.guest_driver.specs.Inner.Places.{HasPassed}
use Rattle.guest_driver.specs.declared.packed_queue.Position.{Position}

meets : (r size : ℕ) → r < size → size ≤ r + 1 → r + 1 ≡ size
meets r size below reached = omega arith

one_on : (size t : ℕ) → t + 1 ≡ t / size * size + (t % size + 1)
one_on size t = ap (λ (n : ℕ). n + 1) (sym (div-add-mod' t size)) ∙ add_assoc (t / size * size) (t % size) 1

round_on : (size t : ℕ) → t % size + 1 ≡ size → t + 1 ≡ (t / size + 1) * size + 0
round_on size t last =
    let q : ℕ = t / size in
    let e : t + 1 ≡ q * size + size = one_on size t ∙ ap (λ (n : ℕ). q * size + n) last in
    e ∙ grind arith

turned : (q : ℕ) → ((q + 1) % 2 == 0) ≡ not (q % 2 == 0)
turned q = grind (arith, common_steps, nat_tests)

pub passed_inside : (size t : ℕ) (p : Position) → HasPassed size t p → p.slot + 1 < size
    → HasPassed size (t + 1) (record { slot = p.slot + 1; wrap = p.wrap })
passed_inside size t p at inside =
    let lt : t % size + 1 < size = subst (λ (n : ℕ). n + 1 < size) at.slot inside in
    record {
      slot = ap (λ (n : ℕ). n + 1) at.slot ∙ sym (ap (λ (n : ℕ). n % size) (one_on size t) ∙ mod-mul-add (t / size) size (t % size + 1) lt);
      wrap = at.wrap ∙ sym (ap (λ (n : ℕ). n % 2 == 0) (ap (λ (n : ℕ). n / size) (one_on size t) ∙ div-mul-add (t / size) size (t % size + 1) lt));
    }

pub passed_round : (size t : ℕ) (p : Position) → 0 < size → HasPassed size t p → size ≤ p.slot + 1
    → HasPassed size (t + 1) (record { slot = 0; wrap = not p.wrap })
passed_round size t p some at last =
    let below : t % size < size = mod-lt t some in
    let reached : size ≤ t % size + 1 = subst (λ (n : ℕ). size ≤ n + 1) at.slot last in
    let full : t % size + 1 ≡ size = meets (t % size) size below reached in
    record {
      slot = sym (ap (λ (n : ℕ). n % size) (round_on size t full) ∙ mod-mul-add (t / size + 1) size 0 some);
      wrap = ap not at.wrap ∙ sym (turned (t / size))
          ∙ sym (ap (λ (n : ℕ). n % 2 == 0) (ap (λ (n : ℕ). n / size) (round_on size t full) ∙ div-mul-add (t / size + 1) size 0 some));
    }

seen_by : (here wrap written : Bool) → IsTrue (nat_eq (bit_and (cond wrap 32896 0 + cond written 2 0) 32896) (cond here 32896 0)) ↔ (wrap ≡ here)
seen_by true true true = search rules
seen_by true true false = search rules
seen_by true false true = search rules
seen_by true false false = search rules
seen_by false true true = search rules
seen_by false true false = search rules
seen_by false false true = search rules
seen_by false false false = search rules

pub seen_used : (here wrap : Bool) (flags len both : ℕ) → flags ≡ used_flags wrap len → both ≡ cond here 32896 0
    → IsTrue (nat_eq (bit_and flags 32896) both) ↔ (wrap ≡ here)
seen_used here wrap flags len both is wanted =
    subst (λ (n : ℕ). IsTrue (nat_eq (bit_and n 32896) both) ↔ (wrap ≡ here)) (sym is)
    (subst (λ (n : ℕ). IsTrue (nat_eq (bit_and (used_flags wrap len) 32896) n) ↔ (wrap ≡ here)) (sym wanted)
    (seen_by here wrap (nat_lt 0 len)))
