-- Where a block's number stands to a range of blocks.
use Rattle.std.proofs.Common.{◌≡◌, ℕ, ◌+◌, ◌<◌, ◌≤◌, true, false, inl, inr, arith}
use Rattle.std.proofs.lemmas.Bool.Decides.{nat_tests, leb_tells}
use Rattle.block_store.specs.Blocks.{is_within}

-- before it, in it or behind it
pub data Standing (first n b : ℕ) : Type 0 where
  before : b < first → Standing first n b
  inside : first ≤ b → b < first + n → Standing first n b
  behind : first + n ≤ b → Standing first n b

pub standing : (first n b : ℕ) → Standing first n b
standing first n b =
    elim (leb_tells first b) [
      | inl reaches ↦ elim (leb_tells (first + n) b) [
        | inl past ↦ behind past.1
        | inr short ↦ inside reaches.1 short.1
      ]
      | inr low ↦ before low.1
    ]

pub is_within-before : (first n b : ℕ) → b < first → is_within first n b ≡ false
is_within-before first n b low = grind (arith, nat_tests)

pub is_within-inside : (first n b : ℕ) → first ≤ b → b < first + n → is_within first n b ≡ true
is_within-inside first n b reaches short = grind (arith, nat_tests)

pub is_within-behind : (first n b : ℕ) → first + n ≤ b → is_within first n b ≡ false
is_within-behind first n b past = grind (arith, nat_tests)
