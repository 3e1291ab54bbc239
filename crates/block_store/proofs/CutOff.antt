-- What is left of pages, and of blocks, that are cut off at a number.
use Rattle.std.proofs.Common.{◌≡◌, ℕ, ◌+◌, ◌-◌, ◌/◌, ◌%◌, ◌<◌, ◌≤◌, true, false, nat_lt, List, [], take, inl, inr, if◌then◌else◌, refl, ap, ◌∙◌, sym, arith}
use Rattle.std.proofs.lemmas.Bool.Decides.{nat_tests, leb_tells}
use Rattle.block_store.specs.Blocks.{zero_block, zeroed}
use Rattle.block_store.specs.Pages.{blocks_in}
use Rattle.block_store.specs.Kept.{bytes_of, row_kept, kept_in, kept, blocks_of}
use Rattle.block_store.specs.declared.page.Page.{Page}
use Rattle.block_store.specs.declared.pages.Pages.{Pages}
use Rattle.block_store.proofs.CutSlots.{same-slot, lower-slot, get-take, get-take-past}
use Rattle.block_store.proofs.Paging.{blocks_in-none}
use Rattle.block_store.proofs.Rows.{Changed, at-row}
use Rattle.block_store.proofs.Within.{Standing, before, inside, behind, standing, is_within-before, is_within-inside, is_within-behind}

below : (a b : ℕ) → a < b → nat_lt a b ≡ true
below a b low = grind (arith, nat_tests)

not_below : (a b : ℕ) → b ≤ a → nat_lt a b ≡ false
not_below a b high = grind (arith, nat_tests)

-- the first pages of a row
kept-take : (row : List Page) (n p : ℕ) → row_kept (take n row) p ≡ (if nat_lt p n then row_kept row p else [])
kept-take row n p =
    elim (leb_tells n p) [
      | inl past ↦ rw (not_below p n past.1) (ap bytes_of (get-take-past row n p past.1))
      | inr low ↦ rw (below p n low.1) (ap bytes_of (get-take row n p low.1))
    ]

-- rows that are cut off behind a row, which is cut off too
pub cut-pages : (rows cut taken put : ℕ → List Page) (n end : ℕ) (row new : List Page) → n ≡ end / 64 →
    ((m : ℕ) → cut m ≡ (if nat_lt m (n + 1) then rows m else [])) → Changed cut taken put n row new →
    ((p : ℕ) → row_kept new p ≡ row_kept (take (end % 64) row) p) →
    (p : ℕ) → kept_in put p ≡ (if nat_lt p end then kept_in rows p else [])
cut-pages rows cut taken put n end row new number cut_is changed trimmed p =
    elim (at-row cut taken put n row new changed (p / 64)) [
      | inl it ↦ here it.0 it.1 it.2
      | inr stays ↦ elim (leb_tells n (p / 64)) [
        | inl high ↦ behind_it (omega (arith, high.1, stays.0)) stays.1
        | inr low ↦ before_it low.1 stays.1
      ]
    ]
  where
    here : p / 64 ≡ n → put (p / 64) ≡ new → cut (p / 64) ≡ row → kept_in put p ≡ (if nat_lt p end then kept_in rows p else [])
    here same now was =
        let in_cut : nat_lt (p / 64) (n + 1) ≡ true = below (p / 64) (n + 1) (omega arith) in
        let old : row ≡ rows (p / 64) = sym was ∙ cut_is (p / 64) ∙ rw in_cut refl in
        rw (now, same-slot 64 p end (omega arith) (same ∙ number))
        (trimmed (p % 64) ∙ kept-take row (end % 64) (p % 64) ∙ ap (λ l. if nat_lt (p % 64) (end % 64) then row_kept l (p % 64) else []) old)

    before_it : p / 64 < n → put (p / 64) ≡ cut (p / 64) → kept_in put p ≡ (if nat_lt p end then kept_in rows p else [])
    before_it low stays =
        let in_cut : nat_lt (p / 64) (n + 1) ≡ true = below (p / 64) (n + 1) (omega arith) in
        let low_slot : p / 64 < end / 64 = omega (arith, low, number) in
        let same : put (p / 64) ≡ rows (p / 64) = stays ∙ cut_is (p / 64) ∙ rw in_cut refl in
        rw (below p end (lower-slot 64 p end low_slot (omega arith))) (ap (λ l. row_kept l (p % 64)) same)

    behind_it : n < p / 64 → put (p / 64) ≡ cut (p / 64) → kept_in put p ≡ (if nat_lt p end then kept_in rows p else [])
    behind_it high stays =
        let out : nat_lt (p / 64) (n + 1) ≡ false = not_below (p / 64) (n + 1) (omega arith) in
        let high_slot : end / 64 < p / 64 = omega (arith, high, number) in
        let over : end < p = lower-slot 64 end p high_slot (omega arith) in
        let gone : put (p / 64) ≡ [] = stays ∙ cut_is (p / 64) ∙ rw out refl in
        rw (not_below p end (omega arith)) (ap (λ l. row_kept l (p % 64)) gone)

pub cut-blocks : (m k n : Pages) (left end tail : ℕ) → end ≡ (left + 7) / 8 → tail ≡ (8 - left % 8) % 8 →
    ((p : ℕ) → kept k p ≡ (if nat_lt p end then kept m p else [])) → ((b : ℕ) → blocks_of n b ≡ zeroed (blocks_of k) left tail b) →
    (b : ℕ) → blocks_of n b ≡ (if nat_lt b left then blocks_of m b else zero_block)
cut-blocks m k n left end tail end_is tail_is cut cleared b = cleared b ∙ at_standing (standing left tail b)
  where
    at_standing : Standing left tail b → zeroed (blocks_of k) left tail b ≡ (if nat_lt b left then blocks_of m b else zero_block)
    at_standing (before low) =
        rw (is_within-before left tail b low, below b left low) (ap (λ l. blocks_in l (b % 8)) (cut-before low))
      where
        cut-before : b < left → kept k (b / 8) ≡ kept m (b / 8)
        cut-before low = cut (b / 8) ∙ rw (below (b / 8) end (omega arith)) refl
    at_standing (inside reaches short) = rw (is_within-inside left tail b reaches short, not_below b left reaches) refl
    at_standing (behind past) =
        rw (is_within-behind left tail b past, not_below b left (omega arith)) (ap (λ l. blocks_in l (b % 8)) (gone past) ∙ blocks_in-none (b % 8))
      where
        gone : left + tail ≤ b → kept k (b / 8) ≡ []
        gone past = cut (b / 8) ∙ rw (not_below (b / 8) end (omega arith)) refl
