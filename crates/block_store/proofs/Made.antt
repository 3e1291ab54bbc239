-- Pages that keep their bytes, made one after the other.
use Rattle.std.proofs.Common.{◌≡◌, ℕ, ◌+◌, ◌/◌, ◌%◌, ◌≤◌, Bool, subst, arith}
use Rattle.std.specs.Prelude.{IsTrue}
use Rattle.block_store.specs.Blocks.{is_within}
use Rattle.block_store.proofs.Within.{Standing, before, inside, behind, standing, is_within-before, is_within-inside, is_within-behind}

pub made-next : (old new : ℕ → Bool) (first done some : ℕ) → (first + done) % 8 + some ≤ 8 →
    ((b : ℕ) → IsTrue (is_within first done b) → IsTrue (old (b / 8))) →
    ((p : ℕ) → IsTrue (old p) → IsTrue (new p)) → IsTrue (new ((first + done) / 8)) →
    (b : ℕ) → IsTrue (is_within first (done + some) b) → IsTrue (new (b / 8))
made-next old new first done some fits so_far stays here b within = at_standings (standing first done b) (standing (first + done) some b)
  where
    at_standings : Standing first done b → Standing (first + done) some b → IsTrue (new (b / 8))
    at_standings _ (inside reaches short) =
        let page : (first + done) / 8 ≡ b / 8 = omega arith in
        subst (λ p. IsTrue (new p)) page here
    at_standings (inside reaches short) (before _) = stays (b / 8) (so_far b (is_within-inside first done b reaches short))
    at_standings (before low) (before _) = let no = rw (is_within-before first (done + some) b low) at within in cc
    at_standings (behind past) (before low) = absurd (omega arith)
    at_standings _ (behind past) = let no = rw (is_within-behind first (done + some) b (omega arith)) at within in cc

-- what is true of the numbers of two ranges that lie side by side
pub within-further : (old new : ℕ → Bool) (first done some : ℕ) →
    ((b : ℕ) → IsTrue (is_within first done b) → IsTrue (old b)) →
    ((b : ℕ) → IsTrue (old b) → IsTrue (new b)) →
    ((b : ℕ) → IsTrue (is_within (first + done) some b) → IsTrue (new b)) →
    (b : ℕ) → IsTrue (is_within first (done + some) b) → IsTrue (new b)
within-further old new first done some so_far stays more b within = at_standings (standing first done b) (standing (first + done) some b)
  where
    at_standings : Standing first done b → Standing (first + done) some b → IsTrue (new b)
    at_standings _ (inside reaches short) = more b (is_within-inside (first + done) some b reaches short)
    at_standings (inside reaches short) (before _) = stays b (so_far b (is_within-inside first done b reaches short))
    at_standings (before low) (before _) = let no = rw (is_within-before first (done + some) b low) at within in cc
    at_standings (behind past) (before low) = absurd (omega arith)
    at_standings _ (behind past) = let no = rw (is_within-behind first (done + some) b (omega arith)) at within in cc
