-- Pages that have slots, and such as go from one slot to another.
use Rattle.std.specs.Prelude.{IsTrue}
use Rattle.std.proofs.Common.{◌≡◌, ◌≢◌, ℕ, ◌+◌, ◌-◌, ◌*◌, ◌/◌, ◌%◌, ◌<◌, ◌≤◌, Bool, true, false, ◌&&◌, ◌==◌, nat_lt, List, [], length, inl, inr, if◌then◌else◌, refl, ap, ◌∙◌, sym, arith}
use Rattle.std.proofs.lemmas.Bool.{cases_eq}
use Rattle.std.proofs.lemmas.Bool.Decides.{nat_tests, leb_tells}
use Rattle.block_store.specs.Blocks.{Blocks, is_within, run}
use Rattle.block_store.specs.Pages.{covered, paged}
use Rattle.block_store.specs.Kept.{row_kept, kept_in, kept_from, kept_at_ends}
use Rattle.block_store.specs.Inner.Kept.{row_blocks}
use Rattle.block_store.specs.declared.page.Page.{Page}
use Rattle.block_store.proofs.Agreeing.{both, both-true}
use Rattle.block_store.proofs.Rows.{Changed, at-row}
use Rattle.block_store.proofs.Runs.{run-same}
use Rattle.block_store.proofs.Within.{Standing, before, inside, behind, standing, is_within-before, is_within-inside, is_within-behind}

below : (a b : ℕ) → a < b → nat_lt a b ≡ true
below a b low = grind (arith, nat_tests)

not_below : (a b : ℕ) → b ≤ a → nat_lt a b ≡ false
not_below a b high = grind (arith, nat_tests)

is-below : (a b : ℕ) → nat_lt a b ≡ true → a < b
is-below a b low = grind (arith, nat_tests)

-- the blocks of a row that begins at a page
pub from-row : (start : ℕ) (row : List Page) (b : ℕ) → start ≤ b / 8 → paged (kept_from start row) b ≡ row_blocks row (b - 8 * start)
from-row start row b reaches =
    let page : b / 8 - start ≡ (b - 8 * start) / 8 = omega arith in
    let position : b % 8 ≡ (b - 8 * start) % 8 = omega arith in
    rw (not_below (b / 8) start reaches, page, position) refl

-- blocks of it, end to end
pub run-from : (start : ℕ) (row : List Page) (from first count : ℕ) → start ≤ first / 8 → from ≡ first - start * 8 →
    run (row_blocks row) from count ≡ run (paged (kept_from start row)) first count
run-from start row from first count reaches position =
    run-same (row_blocks row) (paged (kept_from start row)) from first count
    (λ k short.
    let number : from + k ≡ first + k - 8 * start = omega arith in
    ap (λ b. row_blocks row b) number ∙ sym (from-row start row (first + k) (omega arith)))

-- what is covered of it
pub from-covered : (start : ℕ) (row new : List Page) (given : Blocks) (from first count : ℕ) → start ≡ first / 8 → from ≡ first % 8 →
    ((k : ℕ) → row_blocks new k ≡ covered (row_blocks row) (λ j. given (8 * start + j)) from count k) →
    (b : ℕ) → paged (kept_from start new) b ≡ covered (paged (kept_from start row)) given first count b
from-covered start row new given from first count begun position here b =
    elim (leb_tells start (b / 8)) [
      | inl reaches ↦ there reaches.1 (standing first count b)
      | inr low ↦ rw (below (b / 8) start low.1, is_within-before first count b (omega (arith, low.1))) refl
    ]
  where
    there : start ≤ b / 8 → Standing first count b → paged (kept_from start new) b ≡ covered (paged (kept_from start row)) given first count b
    there reaches (before low) =
        rw (is_within-before first count b low)
        (from-row start new b reaches ∙ here (b - 8 * start) ∙ rw (is_within-before from count (b - 8 * start) (omega arith)) (sym (from-row start row b reaches)))
    there reaches (inside some short) =
        let number : 8 * start + (b - 8 * start) ≡ b = omega arith in
        rw (is_within-inside first count b some short)
        (from-row start new b reaches ∙ here (b - 8 * start) ∙ rw (is_within-inside from count (b - 8 * start) (omega arith) (omega arith)) (ap given number))
    there reaches (behind past) =
        rw (is_within-behind first count b past)
        (from-row start new b reaches ∙ here (b - 8 * start) ∙ rw (is_within-behind from count (b - 8 * start) (omega arith)) (sym (from-row start row b reaches)))

-- whether page p of rows has a slot, where rows do
pub placed : (ℕ → Bool) → (ℕ → List Page) → ℕ → Bool
placed has rows p = has (p / 64) && nat_lt (p % 64) (length (rows (p / 64)))

-- a row that grows
pub placed-grown : (has had : ℕ → Bool) (rows taken put : ℕ → List Page) (n : ℕ) (row new : List Page) → Changed rows taken put n row new →
    ((m : ℕ) → IsTrue (had m) → IsTrue (has m)) → length row ≤ length new →
    (p : ℕ) → IsTrue (had (p / 64) && nat_lt (p % 64) (length (rows (p / 64)))) → IsTrue (has (p / 64) && nat_lt (p % 64) (length (put (p / 64))))
placed-grown has had rows taken put n row new changed stay grows p was =
    let two = both (had (p / 64)) (nat_lt (p % 64) (length (rows (p / 64)))) was in
    both-true (has (p / 64)) (nat_lt (p % 64) (length (put (p / 64)))) (stay (p / 64) two.0)
    (elim (at-row rows taken put n row new changed (p / 64)) [
      | inl it ↦
          let old : p % 64 < length (rows (p / 64)) = is-below (p % 64) (length (rows (p / 64))) two.1 in
          let is : length (rows (p / 64)) ≡ length row = ap length it.2 in
          rw it.1 (below (p % 64) (length new) (omega arith))
      | inr stays ↦ rw stays.1 two.1
    ])

-- a row that is as long as before
pub placed-same : (has had : ℕ → Bool) (rows taken put : ℕ → List Page) (n : ℕ) (row new : List Page) → Changed rows taken put n row new →
    ((m : ℕ) → has m ≡ had m) → length new ≡ length row →
    (p : ℕ) → (has (p / 64) && nat_lt (p % 64) (length (put (p / 64)))) ≡ (had (p / 64) && nat_lt (p % 64) (length (rows (p / 64))))
placed-same has had rows taken put n row new changed same len p =
    elim (at-row rows taken put n row new changed (p / 64)) [
      | inl it ↦ rw (it.1, it.2, same (p / 64), len) refl
      | inr stays ↦ rw (stays.1, same (p / 64)) refl
    ]

-- how long a row is, of which a range has slots
pub long-enough : (has : ℕ → Bool) (rows : ℕ → List Page) (row : List Page) (n page count : ℕ) → row ≡ rows n → n ≡ page / 64 → 0 < count → page % 64 + count ≤ 64 →
    ((p : ℕ) → IsTrue (is_within page count p) → IsTrue (has (p / 64) && nat_lt (p % 64) (length (rows (p / 64))))) → page % 64 + count ≤ length row
long-enough has rows row n page count is number some fits there =
    let last = page + count - 1 in
    let whole : last / 64 ≡ n = omega arith in
    let two = both (has (last / 64)) (nat_lt (last % 64) (length (rows (last / 64)))) (there last (is_within-inside page count last (omega arith) (omega arith))) in
    let low : last % 64 < length (rows (last / 64)) = is-below (last % 64) (length (rows (last / 64))) two.1 in
    let len : length (rows (last / 64)) ≡ length row = ap length (ap rows whole ∙ sym is) in
    omega arith

-- pages of one row that are exchanged with those of a row that begins at a page
pub exchanged-here : (rows taken put : ℕ → List Page) (n : ℕ) (row new others : List Page) → Changed rows taken put n row new →
    (start done page at count : ℕ) → page ≡ start + done → n ≡ page / 64 → at ≡ page % 64 → page % 64 + count ≤ 64 →
    ((p : ℕ) → row_kept new p ≡ (if is_within at count p then row_kept others (done + (p - at)) else row_kept row p)) →
    (p : ℕ) → kept_in put p ≡ (if is_within page count p then kept_from start others p else kept_in rows p)
exchanged-here rows taken put n row new others changed start done page at count page_is number position fits here p =
    elim (at-row rows taken put n row new changed (p / 64)) [
      | inl it ↦ rw it.1 (here (p % 64) ∙ in_row it.0 it.2 (standing page count p))
      | inr stays ↦ rw stays.1 (elsewhere stays.0 (standing page count p))
    ]
  where
    in_row : p / 64 ≡ n → rows (p / 64) ≡ row → Standing page count p →
        (if is_within at count (p % 64) then row_kept others (done + (p % 64 - at)) else row_kept row (p % 64)) ≡ (if is_within page count p then kept_from start others p else kept_in rows p)
    in_row same was (before low) =
        rw (is_within-before page count p low, is_within-before at count (p % 64) (omega arith)) (ap (λ l. row_kept l (p % 64)) (sym was))
    in_row same was (inside reaches short) =
        let number : done + (p % 64 - at) ≡ p - start = omega arith in
        rw (is_within-inside page count p reaches short, is_within-inside at count (p % 64) (omega arith) (omega arith), not_below p start (omega arith), number) refl
    in_row same was (behind past) =
        rw (is_within-behind page count p past, is_within-behind at count (p % 64) (omega arith)) (ap (λ l. row_kept l (p % 64)) (sym was))

    elsewhere : p / 64 ≢ n → Standing page count p → kept_in rows p ≡ (if is_within page count p then kept_from start others p else kept_in rows p)
    elsewhere apart (before low) = rw (is_within-before page count p low) refl
    elsewhere apart (inside reaches short) = absurd (apart (omega arith))
    elsewhere apart (behind past) = rw (is_within-behind page count p past) refl

-- and the others
pub exchanged-there : (rows : ℕ → List Page) (n : ℕ) (row others new : List Page) (start done page at count : ℕ) → row ≡ rows n →
    page ≡ start + done → n ≡ page / 64 → at ≡ page % 64 → page % 64 + count ≤ 64 →
    ((p : ℕ) → row_kept new p ≡ (if is_within done count p then row_kept row (at + (p - done)) else row_kept others p)) →
    (p : ℕ) → kept_from start new p ≡ (if is_within page count p then kept_in rows p else kept_from start others p)
exchanged-there rows n row others new start done page at count is page_is number position fits there p = at_standing (standing page count p)
  where
    at_standing : Standing page count p → kept_from start new p ≡ (if is_within page count p then kept_in rows p else kept_from start others p)
    at_standing (inside reaches short) =
        let whole : p / 64 ≡ n = omega arith in
        let rest : at + (p - start - done) ≡ p % 64 = omega arith in
        rw (is_within-inside page count p reaches short, not_below p start (omega arith), whole)
        (there (p - start) ∙ rw (is_within-inside done count (p - start) (omega arith) (omega arith), is, rest) refl)
    at_standing (before low) =
        rw (is_within-before page count p low)
        (elim (leb_tells start p) [
          | inl reaches ↦ rw (not_below p start reaches.1) (there (p - start) ∙ rw (is_within-before done count (p - start) (let r = reaches.1 in omega arith)) refl)
          | inr under ↦ rw (below p start under.1) refl
        ])
    at_standing (behind past) =
        rw (is_within-behind page count p past, not_below p start (omega arith)) (there (p - start) ∙ rw (is_within-behind done count (p - start) (omega arith)) refl)

-- a range of pages that are exchanged, and more behind it
pub exchanged-further : (own given now others new : ℕ → List ℕ) (start done some : ℕ) →
    ((p : ℕ) → now p ≡ (if is_within start done p then given p else own p)) →
    ((p : ℕ) → others p ≡ (if is_within start done p then own p else given p)) →
    ((p : ℕ) → new p ≡ (if is_within (start + done) some p then others p else now p)) →
    (p : ℕ) → new p ≡ (if is_within start (done + some) p then given p else own p)
exchanged-further own given now others new start done some so_far left step p = step p ∙ at_standings (standing start done p) (standing (start + done) some p)
  where
    at_standings : Standing start done p → Standing (start + done) some p →
        (if is_within (start + done) some p then others p else now p) ≡ (if is_within start (done + some) p then given p else own p)
    at_standings _ (inside reaches short) =
        rw (is_within-inside (start + done) some p reaches short, is_within-inside start (done + some) p (omega arith) (omega arith))
        (left p ∙ rw (is_within-behind start done p reaches) refl)
    at_standings (before low) (before _) =
        rw (is_within-before (start + done) some p (omega arith), is_within-before start (done + some) p low)
        (so_far p ∙ rw (is_within-before start done p low) refl)
    at_standings (inside reaches short) (before _) =
        rw (is_within-before (start + done) some p short, is_within-inside start (done + some) p reaches (omega arith))
        (so_far p ∙ rw (is_within-inside start done p reaches short) refl)
    at_standings (behind past) (before low) = absurd (omega arith)
    at_standings _ (behind past) =
        rw (is_within-behind (start + done) some p past, is_within-behind start (done + some) p (omega arith))
        (so_far p ∙ rw (is_within-behind start done p (omega arith)) refl)

-- a row that has two pages
pub from-ends : (start end last : ℕ) (head tail : List ℕ) (row : List Page) → last ≡ end - start → start ≤ end →
    ((p : ℕ) → row_kept row p ≡ (if p == 0 then head else if p == last then tail else [])) →
    (p : ℕ) → kept_from start row p ≡ kept_at_ends start end head tail p
from-ends start end last head tail row last_is order is p =
    elim (leb_tells start p) [
      | inl reaches ↦
          rw (not_below p start reaches.1)
          (is (p - start) ∙ rw (same_test (p - start) 0 p start (omega arith) (let r = reaches.1 in omega arith), same_test (p - start) last p end (let r = reaches.1 in omega arith) (let r = reaches.1 in omega arith)) refl)
      | inr low ↦ rw (below p start low.1, apart p start (omega (arith, low.1)), apart p end (omega (arith, low.1))) refl
    ]
  where
    same_test : (a b c d : ℕ) → (a ≡ b → c ≡ d) → (c ≡ d → a ≡ b) → (a == b) ≡ (c == d)
    same_test a b c d there back =
        elim (cases_eq a b) [
          | inl same ↦ let e : c ≡ d = there same in grind (arith, nat_tests)
          | inr other ↦ let e : c ≢ d = λ f. other (back f) in grind (arith, nat_tests)
        ]

    apart : (a b : ℕ) → a < b → (a == b) ≡ false
    apart a b low = grind (arith, nat_tests)
