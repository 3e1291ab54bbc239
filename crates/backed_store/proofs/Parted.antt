-- The blocks of a store once a part of a range was written in memory.
use Rattle.std.proofs.Common.{◌≡◌, ◌≢◌, ℕ, ◌+◌, ◌-◌, ◌*◌, ◌/◌, ◌%◌, ◌==◌, ◌<◌, ◌≤◌, true, false, IsTrue, List, inl, inr, ◌⊎◌, if◌then◌else◌, refl, ◌∙◌, ap, arith}
use Rattle.std.proofs.lemmas.Bool.{cases_eq}
use Rattle.std.proofs.lemmas.Bool.Decides.{nat_tests, leb_tells}
use Rattle.block_store.specs.Blocks.{Blocks, nth_block, is_within, run}
use Rattle.block_store.specs.Pages.{covered}
use Rattle.block_store.specs.Inner.Pages.{is_beside}
use Rattle.block_store.proofs.Within.{Standing, before, inside, behind, standing, is_within-before, is_within-inside, is_within-behind}
use Rattle.block_store.proofs.Runs.{run-same}
use Rattle.block_store.proofs.Paging.{pieces-covered}
use Rattle.backed_store.specs.Marks.{State, changed}

-- blocks in memory, and those that a storage kept
abbrev pub stored : (ℕ → State) → (ℕ → List ℕ) → Blocks → Blocks
stored states bytes kept b = if (states (b / 8)).held then nth_block (bytes (b / 8)) (b % 8) else kept b

-- a range of one page that is in memory
pub part-run : (states : ℕ → State) (bytes : ℕ → List ℕ) (kept : Blocks) (held : List ℕ) (page from first count : ℕ) →
    page ≡ first / 8 → from ≡ first % 8 → first % 8 + count ≤ 8 → held ≡ bytes page → (states page).held ≡ true →
    run (nth_block held) from count ≡ run (stored states bytes kept) first count
part-run states bytes kept held page from first count in_page at_position fits is there =
    run-same (nth_block held) (stored states bytes kept) from first count (λ k below.
    let number : (first + k) / 8 ≡ page = omega (arith, in_page, fits, below) in
    let position : (first + k) % 8 ≡ from + k = omega (arith, at_position, fits, below) in
    rw (number, position, there, is) refl)

module _ (states new_states : ℕ → State) (bytes new_bytes : ℕ → List ℕ) (kept given : Blocks) (first n : ℕ)
    (fits : first % 8 + n ≤ 8) (some : 0 < n)
    (marked : (p : ℕ) → new_states p ≡ (if p == first / 8 then changed (states p) else states p))
    (others : (p : ℕ) → p ≢ first / 8 → new_bytes p ≡ bytes p)
    (here : (k : ℕ) → nth_block (new_bytes (first / 8)) k ≡ covered (nth_block (bytes (first / 8))) (λ j. given (first / 8 * 8 + j)) (first % 8) n k)
    (beside : (b : ℕ) → IsTrue (is_beside first n b) → IsTrue (states (b / 8)).held) where
  in_bytes : (b : ℕ) → nth_block (new_bytes (b / 8)) (b % 8) ≡ covered (λ c. nth_block (bytes (c / 8)) (c % 8)) given first n b
  in_bytes =
      pieces-covered 8 (λ p. nth_block (bytes p)) (λ p. nth_block (new_bytes p)) given first n (omega arith) fits
      (λ p apart k. ap (λ l. nth_block l k) (others p apart)) (λ k below. here k)

  in_page : (b : ℕ) → b / 8 ≡ first / 8 → (new_states (b / 8)).held ≡ true
  in_page b same =
      let test : (b / 8 == first / 8) ≡ true = grind (arith, nat_tests) in
      let state : new_states (b / 8) ≡ changed (states (b / 8)) = marked (b / 8) ∙ rw test refl in
      ap (λ (s : State). s.held) state

  pub part-stored : (b : ℕ) → stored new_states new_bytes kept b ≡ covered (stored states bytes kept) given first n b
  part-stored b =
      elim (cases_eq (b / 8) (first / 8)) [
        | inl same ↦ at_standing same (standing first n b)
        | inr apart ↦ elsewhere apart (standing first n b)
      ]
    where
      outside : b / 8 ≡ first / 8 → is_within first n b ≡ false → stored new_states new_bytes kept b ≡ covered (stored states bytes kept) given first n b
      outside same out =
          let near : is_beside first n b ≡ true = grind (arith, nat_tests, out) in
          let was : (states (b / 8)).held ≡ true = beside b near in
          rw (in_page b same, out, was) (in_bytes b ∙ rw out refl)

      at_standing : b / 8 ≡ first / 8 → Standing first n b → stored new_states new_bytes kept b ≡ covered (stored states bytes kept) given first n b
      at_standing same (before low) = outside same (is_within-before first n b low)
      at_standing same (behind past) = outside same (is_within-behind first n b past)
      at_standing same (inside reaches short) =
          let within = is_within-inside first n b reaches short in
          rw (in_page b same, within) (in_bytes b ∙ rw within refl)

      away : b / 8 ≢ first / 8 → is_within first n b ≡ false → stored new_states new_bytes kept b ≡ covered (stored states bytes kept) given first n b
      away apart out =
          let test : (b / 8 == first / 8) ≡ false = grind (arith, nat_tests) in
          let state : new_states (b / 8) ≡ states (b / 8) = marked (b / 8) ∙ rw test refl in
          rw (out, state, others (b / 8) apart) refl

      elsewhere : b / 8 ≢ first / 8 → Standing first n b → stored new_states new_bytes kept b ≡ covered (stored states bytes kept) given first n b
      elsewhere apart (before low) = away apart (is_within-before first n b low)
      elsewhere apart (behind past) = away apart (is_within-behind first n b past)
      elsewhere apart (inside reaches short) = absurd (apart (omega (arith, reaches, short, fits)))

-- what is beside a part of a range is beside the range, where the parts end at pages
pub beside-part : (first count done some b : ℕ) → done + some ≤ count → 0 < some → (0 < done → (first + done) % 8 ≡ 0) →
    (some < count - done → (first + done) % 8 + some ≡ 8) → (first + done) % 8 + some ≤ 8 →
    IsTrue (is_beside (first + done) some b) → IsTrue (is_beside first count b)
beside-part first count done some b reaches any border full fits near =
    elim (leb_tells 1 done) [
      | inl later ↦ let start = border later.1 in grind (arith, nat_tests, start, near, full)
      | inr early ↦ grind (arith, nat_tests, near, full, early.1)
    ]

-- a block of a range in one more part is of the range so far, or of the page of the part
pub within-part : (first done some b : ℕ) → (first + done) % 8 + some ≤ 8 → IsTrue (is_within first (done + some) b) →
    IsTrue (is_within first done b) ⊎ (b / 8 ≡ (first + done) / 8)
within-part first done some b fits is = at_standing (standing first (done + some) b)
  where
    at_standing : Standing first (done + some) b → IsTrue (is_within first done b) ⊎ (b / 8 ≡ (first + done) / 8)
    at_standing (before low) = let never = rw (is_within-before first (done + some) b low) at is in cc
    at_standing (behind past) = let never = rw (is_within-behind first (done + some) b past) at is in cc
    at_standing (inside reaches short) =
        elim (leb_tells (first + done) b) [
          | inl later ↦ inr (omega (arith, later.1, short, fits))
          | inr early ↦ inl (is_within-inside first done b reaches early.1)
        ]
