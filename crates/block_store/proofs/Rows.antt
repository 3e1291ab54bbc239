-- Blocks in rows of 64 pages: what becomes of them where a row changes.
use Rattle.std.proofs.Common.{◌≡◌, ◌≢◌, ◌⊎◌, ℕ, ◌+◌, ◌*◌, ◌/◌, ◌%◌, ◌<◌, ◌≤◌, List, length, nat_lt, inl, inr, refl, sym, ◌∙◌, ap, arith, if◌then◌else◌, IsTrue}
use Rattle.std.proofs.lemmas.Bool.{cases_eq}
use Rattle.block_store.specs.Blocks.{Blocks, run, is_within}
use Rattle.block_store.specs.Pages.{covered, paged}
use Rattle.block_store.specs.Kept.{row_kept, kept_in}
use Rattle.block_store.specs.Inner.Kept.{row_blocks, is_made_in}
use Rattle.block_store.specs.declared.page.Page.{Page}
use Rattle.block_store.proofs.Paging.{pieces-covered}
use Rattle.block_store.proofs.Runs.{run-same}
use Rattle.block_store.proofs.Within.{Standing, before, inside, behind, standing, is_within-before, is_within-inside, is_within-behind}

-- a block by its row
pub by-row : (rows : ℕ → List Page) (b : ℕ) → paged (kept_in rows) b ≡ row_blocks (rows (b / 512)) (b % 512)
by-row rows b =
    let row : b / 8 / 64 ≡ b / 512 = omega arith in
    let page : b / 8 % 64 ≡ b % 512 / 8 = omega arith in
    let position : b % 8 ≡ b % 512 % 8 = omega arith in
    rw (row, page, position) refl

-- a list that is blocks of one row, end to end
pub run-row : (rows : ℕ → List Page) (row : List Page) (n from first count : ℕ) → row ≡ rows n → n ≡ first / 512 → from ≡ first % 512 →
    first % 512 + count ≤ 512 → run (row_blocks row) from count ≡ run (paged (kept_in rows)) first count
run-row rows row n from first count is number position fits =
    let same : ((k : ℕ) → k < count → row_blocks row (from + k) ≡ paged (kept_in rows) (first + k)) = λ k below.
    let whole : (first + k) / 512 ≡ n = omega arith in
    let rest : (first + k) % 512 ≡ from + k = omega arith in
    rw is (sym (by-row rows (first + k) ∙ ap (λ i. row_blocks (rows i) ((first + k) % 512)) whole ∙ ap (λ i. row_blocks (rows n) i) rest)) in
    run-same (row_blocks row) (paged (kept_in rows)) from first count same

-- a row that was taken out, changed and put back
pub record Changed (rows taken put : ℕ → List Page) (n : ℕ) (row new : List Page) : Type 0 where
  pub was : row ≡ rows n
  pub others : (m : ℕ) → m ≢ n → taken m ≡ rows m
  pub now : put n ≡ new
  pub others_now : (m : ℕ) → m ≢ n → put m ≡ taken m

-- it is that row, or one that stayed
pub at-row : (rows taken put : ℕ → List Page) (n : ℕ) (row new : List Page) → Changed rows taken put n row new →
    (m : ℕ) → ((m ≡ n) × (put m ≡ new) × (rows m ≡ row)) ⊎ ((m ≢ n) × (put m ≡ rows m))
at-row rows taken put n row new changed m =
    elim (cases_eq m n) [
      | inl same ↦ inl (same, ap put same ∙ changed.now, ap rows same ∙ sym changed.was)
      | inr apart ↦ inr (apart, changed.others_now m apart ∙ changed.others m apart)
    ]

-- a range of one row
pub row-covered : (rows taken put : ℕ → List Page) (n : ℕ) (row new : List Page) → Changed rows taken put n row new →
    (from first count : ℕ) (given : Blocks) → n ≡ first / 512 → from ≡ first % 512 → first % 512 + count ≤ 512 →
    ((k : ℕ) → row_blocks new k ≡ covered (row_blocks row) (λ j. given (512 * n + j)) from count k) →
    (b : ℕ) → paged (kept_in put) b ≡ covered (paged (kept_in rows)) given first count b
row-covered rows taken put n row new changed from first count given number position fits here b =
    by-row put b
    ∙ pieces-covered 512 (λ m. row_blocks (rows m)) (λ m. row_blocks (put m)) given first count (omega arith) fits
    (λ m apart k. elim (at-row rows taken put n row new changed m) [
      | inl same ↦ absurd (apart (same.0 ∙ number))
      | inr stays ↦ ap (λ l. row_blocks l k) stays.1
    ])
    (λ k below. here_at k) b
    ∙ ap (λ x. if is_within first count b then given b else x) (sym (by-row rows b))
  where
    here_at : (k : ℕ) → row_blocks (put (first / 512)) k ≡ covered (row_blocks (rows (first / 512))) (λ j. given (first / 512 * 512 + j)) (first % 512) count k
    here_at k =
        let offset : 512 * n + k ≡ n * 512 + k = omega arith in
        rw (sym number, sym position)
        (ap (λ l. row_blocks l k) changed.now ∙ here k
        ∙ ap (λ i. if is_within from count k then given i else row_blocks row k) offset
        ∙ ap (λ l. if is_within from count k then given (n * 512 + k) else row_blocks l k) changed.was)

-- what is true of each page of the row, as it was and as it is, is true of each page of the rows
pub each-page : (P : List ℕ → List ℕ → Type 0) → ((l : List ℕ) → P l l) →
    (rows taken put : ℕ → List Page) (n : ℕ) (row new : List Page) → Changed rows taken put n row new →
    ((p : ℕ) → P (row_kept row p) (row_kept new p)) → (p : ℕ) → P (kept_in rows p) (kept_in put p)
each-page P same rows taken put n row new changed here p =
    elim (at-row rows taken put n row new changed (p / 64)) [
      | inl it ↦ rw (it.1, it.2) (here (p % 64))
      | inr stays ↦ rw stays.1 (same (kept_in rows p))
    ]

-- blocks stay, where those of the row do
pub row-same : (rows taken put : ℕ → List Page) (n : ℕ) (row new : List Page) → Changed rows taken put n row new →
    ((b : ℕ) → row_blocks new b ≡ row_blocks row b) → (b : ℕ) → paged (kept_in put) b ≡ paged (kept_in rows) b
row-same rows taken put n row new changed here b =
    by-row put b ∙ elim (at-row rows taken put n row new changed (b / 512)) [
      | inl it ↦ rw (it.1, it.2) (here (b % 512))
      | inr stays ↦ ap (λ l. row_blocks l (b % 512)) stays.1
    ] ∙ sym (by-row rows b)

-- pages of a range of one row keep their bytes, by their numbers in the row
pub made-in-row : (rows : ℕ → List Page) (row : List Page) (n from first count : ℕ) → row ≡ rows n → n ≡ first / 512 → from ≡ first % 512 →
    first % 512 + count ≤ 512 → ((b : ℕ) → IsTrue (is_within first count b) → IsTrue (nat_lt 0 (length (kept_in rows (b / 8))))) →
    (k : ℕ) → IsTrue (is_within from count k) → IsTrue (is_made_in row (k / 8))
made-in-row rows row n from first count is number position fits made k within = at_standing (standing from count k)
  where
    at_standing : Standing from count k → IsTrue (is_made_in row (k / 8))
    at_standing (before low) = let no = rw (is_within-before from count k low) at within in cc
    at_standing (inside reaches short) =
        let whole : (512 * n + k) / 8 / 64 ≡ n = omega arith in
        let page : (512 * n + k) / 8 % 64 ≡ k / 8 = omega arith in
        let here : IsTrue (nat_lt 0 (length (row_kept (rows ((512 * n + k) / 8 / 64)) ((512 * n + k) / 8 % 64)))) =
        made (512 * n + k) (is_within-inside first count (512 * n + k) (omega arith) (omega arith)) in
        rw is (rw (whole, page) at here)
    at_standing (behind past) = let no = rw (is_within-behind from count k past) at within in cc

-- and by their numbers in all
pub made-of-row : (rows : ℕ → List Page) (row : List Page) (n from first count : ℕ) → rows n ≡ row → n ≡ first / 512 → from ≡ first % 512 →
    first % 512 + count ≤ 512 → ((k : ℕ) → IsTrue (is_within from count k) → IsTrue (is_made_in row (k / 8))) →
    (b : ℕ) → IsTrue (is_within first count b) → IsTrue (nat_lt 0 (length (kept_in rows (b / 8))))
made-of-row rows row n from first count is number position fits made b within = at_standing (standing first count b)
  where
    at_standing : Standing first count b → IsTrue (nat_lt 0 (length (kept_in rows (b / 8))))
    at_standing (before low) = let no = rw (is_within-before first count b low) at within in cc
    at_standing (inside reaches short) =
        let whole : b / 8 / 64 ≡ n = omega arith in
        let page : b / 8 % 64 ≡ b % 512 / 8 = omega arith in
        rw (whole, page, is) (made (b % 512) (is_within-inside from count (b % 512) (omega arith) (omega arith)))
    at_standing (behind past) = let no = rw (is_within-behind first count b past) at within in cc
