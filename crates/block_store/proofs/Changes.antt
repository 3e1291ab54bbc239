-- What becomes of the blocks of a row where one of its pages changes.
use Rattle.std.proofs.Common.{◌≡◌, ◌≢◌, ℕ, true, false, nat_lt, ◌+◌, ◌-◌, ◌*◌, ◌/◌, ◌%◌, ◌<◌, ◌≤◌, List, [], length, set, get_or, replicate, Some, inl, inr, if◌then◌else◌, refl, sym, ◌∙◌, ap, subst, arith}
use Rattle.std.proofs.lemmas.Bool.{cases_eq}
use Rattle.std.proofs.lemmas.Bool.Decides.{leb_tells}
use Rattle.std.proofs.lemmas.Option.{slice_get_past, slice_get-get_or}
use Rattle.block_store.specs.Blocks.{Blocks, nth_block, zero_block, zeroed, is_within}
use Rattle.block_store.specs.Pages.{covered, blocks_in, paged}
use Rattle.block_store.specs.Inner.Whole.{length-nth_block}
use Rattle.block_store.specs.Kept.{bytes_of, row_kept}
use Rattle.block_store.specs.Inner.Kept.{row_blocks, is_made_in}
use Rattle.block_store.specs.declared.page.Page.{Page}
use Rattle.block_store.proofs.Within.{Standing, before, inside, behind, standing, is_within-before, is_within-inside, is_within-behind}
use Rattle.block_store.proofs.CutSlots.{get-set-same, get-set-other}
use Rattle.block_store.proofs.Paging.{paged-covered, blocks_in-covered, blocks_in-whole, blocks_in-none, blocks_in-zeros, clear-unmade, unmade}

-- a page of a row
pub kept-at : (row : List Page) (page : ℕ) (old : Page) → page < length row → old ≡ get_or row page old → row_kept row page ≡ old.bytes.items
kept-at row page old below is = ap bytes_of (slice_get-get_or row page old below ∙ ap Some (sym is))

-- a page that isn't there
pub kept-past : (row : List Page) (page : ℕ) → length row ≤ page → row_kept row page ≡ []
kept-past row page past = ap bytes_of (slice_get_past row page past)

-- a page that was put into a row
pub kept-set : (row : List Page) (page : ℕ) (new : Page) → page < length row → row_kept (set row page new) page ≡ new.bytes.items
kept-set row page new below = ap bytes_of (get-set-same row page new (get_or row page new) (slice_get-get_or row page new below))

-- the others
pub kept-others : (row : List Page) (page : ℕ) (new : Page) (q : ℕ) → q ≢ page → row_kept (set row page new) q ≡ row_kept row q
kept-others row page new q apart = ap bytes_of (get-set-other row page q new apart)

-- a page that keeps bytes is there
pub made-below : (row : List Page) (page : ℕ) → is_made_in row page ≡ true → page < length row
made-below row page made =
    elim (leb_tells (length row) page) [
      | inl past ↦ let none = rw (kept-past row page past.1) at made in cc
      | inr below ↦ below.1
    ]

-- a range of one page, by the numbers of the page and of the position in it
pub part-changed : (old new : ℕ → List ℕ) (page from first count : ℕ) (w : List ℕ) (given : Blocks) →
    page ≡ first / 8 → from ≡ first % 8 → first % 8 + count ≤ 8 →
    new page ≡ w → ((q : ℕ) → q ≢ page → new q ≡ old q) →
    ((k : ℕ) → k < 8 → blocks_in w k ≡ covered (blocks_in (old page)) (λ j. given (8 * page + j)) from count k) →
    (b : ℕ) → paged new b ≡ covered (paged old) given first count b
part-changed old new page from first count w given in_page at_position fits now others here =
    paged-covered old new given first count fits
    (subst (λ p. (q : ℕ) → q ≢ p → new q ≡ old q) in_page others)
    (subst (λ p. (k : ℕ) → k < 8 → blocks_in (new p) k ≡ covered (blocks_in (old p)) (λ j. given (8 * p + j)) (first % 8) count k) in_page
    (subst (λ r. (k : ℕ) → k < 8 → blocks_in (new page) k ≡ covered (blocks_in (old page)) (λ j. given (8 * page + j)) r count k) at_position
    (λ k below. ap (λ l. blocks_in l k) now ∙ here k below)))

-- a page that was written
pub part-written : (row : List Page) (page from first count : ℕ) (old new : Page) (given : Blocks) →
    page ≡ first / 8 → from ≡ first % 8 → first % 8 + count ≤ 8 → page < length row → old ≡ get_or row page old →
    ((k : ℕ) → from ≤ k → k < from + count → length (given (8 * page + k)) ≡ 512) →
    ((k : ℕ) → nth_block new.bytes.items k ≡ covered (nth_block old.bytes.items) (λ j. given (8 * page + j)) from count k) →
    (b : ℕ) → row_blocks (set row page new) b ≡ covered (row_blocks row) given first count b
part-written row page from first count old new given in_page at_position fits there is whole written =
    part-changed (row_kept row) (row_kept (set row page new)) page from first count new.bytes.items given in_page at_position fits
    (kept-set row page new there) (kept-others row page new)
    (λ k below. blocks_in-covered old.bytes.items new.bytes.items (λ j. given (8 * page + j)) from count whole written k
    ∙ ap (λ l. covered (blocks_in l) (λ j. given (8 * page + j)) from count k) (sym (kept-at row page old there is)))

-- a page that was made of all its bytes
pub part-whole : (row : List Page) (page first : ℕ) (new : Page) (bytes : List ℕ) →
    page ≡ first / 8 → first % 8 + 8 ≤ 8 → page < length row → new.bytes.items ≡ bytes → length bytes ≡ 4096 →
    (b : ℕ) → row_blocks (set row page new) b ≡ covered (row_blocks row) (λ c. nth_block bytes (c - first)) first 8 b
part-whole row page first new bytes in_page fits there is size =
    part-changed (row_kept row) (row_kept (set row page new)) page 0 first 8 bytes (λ c. nth_block bytes (c - first)) in_page (omega arith) fits
    (kept-set row page new there ∙ is) (kept-others row page new)
    (λ k below.
    let position : 8 * page + k - first ≡ k = omega arith in
    let whole : length (nth_block bytes k) ≡ 512 = length-nth_block bytes k (omega arith) in
    rw (is_within-inside 0 8 k (omega arith) below, position) (blocks_in-whole bytes k whole))

-- a page that was cleared
pub part-cleared : (row : List Page) (page from first count : ℕ) (old new : Page) →
    page ≡ first / 8 → from ≡ first % 8 → first % 8 + count ≤ 8 → page < length row → old ≡ get_or row page old →
    ((k : ℕ) → k < 8 → blocks_in new.bytes.items k ≡ zeroed (blocks_in old.bytes.items) from count k) →
    (b : ℕ) → row_blocks (set row page new) b ≡ zeroed (row_blocks row) first count b
part-cleared row page from first count old new in_page at_position fits there is cleared =
    part-changed (row_kept row) (row_kept (set row page new)) page from first count new.bytes.items (λ _. zero_block) in_page at_position fits
    (kept-set row page new there) (kept-others row page new)
    (λ k below. cleared k below ∙ ap (λ l. zeroed (blocks_in l) from count k) (sym (kept-at row page old there is)))

-- a page that isn't there
pub part-absent : (row : List Page) (page first count : ℕ) → page ≡ first / 8 → first % 8 + count ≤ 8 → length row ≤ page →
    (b : ℕ) → row_blocks row b ≡ zeroed (row_blocks row) first count b
part-absent row page first count in_page fits past =
    let none : row_kept row (first / 8) ≡ [] = ap (λ p. row_kept row p) (sym in_page) ∙ kept-past row page past in
    paged-covered (row_kept row) (row_kept row) (λ _. zero_block) first count fits (λ p apart. refl)
    (λ k below. rw none (clear-unmade [] (first % 8) count refl k))

-- pages keep bytes as before
pub made-same : (row : List Page) (page : ℕ) (old new : Page) → page < length row → old ≡ get_or row page old →
    length new.bytes.items ≡ length old.bytes.items → (p : ℕ) → is_made_in (set row page new) p ≡ is_made_in row p
made-same row page old new there is same p =
    elim (cases_eq p page) [
      | inl here ↦
          ap (λ q. is_made_in (set row page new) q) here
          ∙ ap (λ l. nat_lt 0 (length l)) (kept-set row page new there) ∙ ap (λ n. nat_lt 0 n) same
          ∙ sym (ap (λ l. nat_lt 0 (length l)) (kept-at row page old there is)) ∙ sym (ap (λ q. is_made_in row q) here)
      | inr apart ↦ ap (λ l. nat_lt 0 (length l)) (kept-others row page new p apart)
    ]

-- a page of zeros in the slot of one that keeps no bytes
pub made-zeros : (row : List Page) (page : ℕ) (new : Page) → page < length row →
    is_made_in row page ≡ false → new.bytes.items ≡ replicate 4096 0 → (b : ℕ) → row_blocks (set row page new) b ≡ row_blocks row b
made-zeros row page new there unmade_before zeros b =
    elim (cases_eq (b / 8) page) [
      | inl same ↦
          let now : row_kept (set row page new) (b / 8) ≡ replicate 4096 0 =
          ap (λ p. row_kept (set row page new) p) same ∙ kept-set row page new there ∙ zeros in
          let before : row_kept row (b / 8) ≡ [] = ap (λ p. row_kept row p) same ∙ unmade (row_kept row page) unmade_before in
          ap (λ l. blocks_in l (b % 8)) now ∙ blocks_in-zeros (b % 8) (omega arith)
          ∙ sym (ap (λ l. blocks_in l (b % 8)) before ∙ blocks_in-none (b % 8))
      | inr apart ↦ ap (λ l. blocks_in l (b % 8)) (kept-others row page new (b / 8) apart)
    ]

-- a range of pages, exchanged with those of others, and one more
pub exchanged-next : (a b a₀ b₀ : List Page) (at from i : ℕ) (x old : Page) → at + i < length a → from + i < length b →
    old ≡ get_or b (from + i) old → x ≡ old →
    ((p : ℕ) → row_kept a p ≡ (if is_within at i p then row_kept b₀ (from + (p - at)) else row_kept a₀ p)) →
    ((p : ℕ) → row_kept b p ≡ (if is_within from i p then row_kept a₀ (at + (p - from)) else row_kept b₀ p)) →
    (p : ℕ) → row_kept (set a (at + i) x) p ≡ (if is_within at (i + 1) p then row_kept b₀ (from + (p - at)) else row_kept a₀ p)
exchanged-next a b a₀ b₀ at from i x old in_a in_b is x_is so_far others p =
    elim (cases_eq p (at + i)) [
      | inl here ↦
          let number : from + (p - at) ≡ from + i = omega arith in
          rw (is_within-inside at (i + 1) p (omega arith) (omega arith), number)
          (ap (λ q. row_kept (set a (at + i) x) q) here ∙ kept-set a (at + i) x in_a ∙ ap (λ q. q.bytes.items) x_is
          ∙ sym (kept-at b (from + i) old in_b is) ∙ others (from + i) ∙ rw (is_within-behind from i (from + i) (omega arith)) refl)
      | inr apart ↦
          kept-others a (at + i) x p apart ∙ so_far p
          ∙ ap (λ w. if w then row_kept b₀ (from + (p - at)) else row_kept a₀ p) (next p apart)
    ]
  where
    next : (p : ℕ) → p ≢ at + i → is_within at i p ≡ is_within at (i + 1) p
    next p apart = at_standing (standing at i p)
      where
        at_standing : Standing at i p → is_within at i p ≡ is_within at (i + 1) p
        at_standing (before low) = rw (is_within-before at i p low, is_within-before at (i + 1) p low) refl
        at_standing (inside reaches short) = rw (is_within-inside at i p reaches short, is_within-inside at (i + 1) p reaches (omega arith)) refl
        at_standing (behind past) = rw (is_within-behind at i p past, is_within-behind at (i + 1) p (omega (arith, past, apart))) refl
