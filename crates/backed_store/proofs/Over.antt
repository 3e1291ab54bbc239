-- The blocks of a store once a page was given to its host.
use Rattle.std.proofs.Common.{◌≡◌, ℕ, ◌+◌, ◌*◌, ◌/◌, ◌%◌, ◌<◌, ◌==◌, Bool, true, false, ◌&&◌, IsTrue, List, [], length, Option, Some, None, if◌then◌else◌, refl, sym, ◌∙◌, ap, arith}
use Rattle.std.proofs.lemmas.Bool.Decides.{nat_tests}
use Rattle.std.specs.Option.{option_map}
use Rattle.block_store.specs.Blocks.{Blocks, nth_block}
use Rattle.block_store.specs.Pages.{blocks_in}
use Rattle.block_store.specs.Inner.Whole.{length-nth_block}
use Rattle.block_store.proofs.Paging.{blocks_in-whole}
use Rattle.backed_store.specs.Marks.{State, state_of, is_clean, is_steady, given}
use Rattle.block_store.specs.Storage.{with_page}
use Rattle.backed_store.specs.Slots.{bytes_of}
use Rattle.backed_store.specs.declared.dealing.Dealing.{Dealing}
use Rattle.backed_store.specs.declared.dealing.Dealing.TheVariants.{Given, Kept, Lost, Denied, Loaded, Cut}
use Rattle.backed_store.specs.declared.slot.Slot.{Slot}
use Rattle.backed_store.proofs.Parted.{stored}

pub and-left : (a b : Bool) → IsTrue (a && b) → IsTrue a
and-left true b is = refl
and-left false b never = never

pub and-right : (a b : Bool) → IsTrue (a && b) → IsTrue b
and-right true b is = is
and-right false b never = let no : false ≡ true = never in cc

module _ (states new_states : ℕ → State) (bytes new_bytes : ℕ → List ℕ) (page : ℕ)
    (marked : (p : ℕ) → new_states p ≡ (if p == page then given (states p) else states p))
    (same : (p : ℕ) → IsTrue (states p).held → new_bytes p ≡ bytes p) where
  pub held-same : (p : ℕ) → (new_states p).held ≡ (states p).held
  held-same p = by_test (p == page) refl
    where
      by_test : (t : Bool) → (p == page) ≡ t → (new_states p).held ≡ (states p).held
      by_test true here = let state : new_states p ≡ given (states p) = marked p ∙ rw here refl in ap (λ (s : State). s.held) state
      by_test false apart = let state : new_states p ≡ states p = marked p ∙ rw apart refl in ap (λ (s : State). s.held) state

  clean-same : (p : ℕ) → is_clean (new_states p) ≡ is_clean (states p)
  clean-same p = by_test (p == page) refl
    where
      by_test : (t : Bool) → (p == page) ≡ t → is_clean (new_states p) ≡ is_clean (states p)
      by_test true here = let state : new_states p ≡ given (states p) = marked p ∙ rw here refl in ap (λ (s : State). is_clean s) state
      by_test false apart = let state : new_states p ≡ states p = marked p ∙ rw apart refl in ap (λ (s : State). is_clean s) state

  pub given-clean : (kept : Blocks) → ((b : ℕ) → IsTrue (is_clean (states (b / 8))) → kept b ≡ nth_block (bytes (b / 8)) (b % 8)) →
      (b : ℕ) → IsTrue (is_clean (new_states (b / 8))) → kept b ≡ nth_block (new_bytes (b / 8)) (b % 8)
  given-clean kept was b is =
      let before : IsTrue (is_clean (states (b / 8))) = sym (clean-same (b / 8)) ∙ is in
      was b before ∙ ap (λ (l : List ℕ). nth_block l (b % 8)) (sym (same (b / 8) (and-left _ _ before)))

  pub given-steady : (host : Blocks) (copy : List ℕ) → copy ≡ new_bytes page → length copy ≡ 4096 →
      ((b : ℕ) → IsTrue (is_steady (states (b / 8))) → host b ≡ nth_block (bytes (b / 8)) (b % 8)) →
      (b : ℕ) → IsTrue (is_steady (new_states (b / 8))) → with_page page (λ c. blocks_in copy (c % 8)) host b ≡ nth_block (new_bytes (b / 8)) (b % 8)
  given-steady host copy is_copy size was b is = by_test (b / 8 == page) refl
    where
      by_test : (t : Bool) → (b / 8 == page) ≡ t → (if t then blocks_in copy (b % 8) else host b) ≡ nth_block (new_bytes (b / 8)) (b % 8)
      by_test true here =
          let number : b / 8 ≡ page = grind (arith, nat_tests, here) in
          let whole : length (nth_block copy (b % 8)) ≡ 512 = length-nth_block copy (b % 8) (omega (arith, size)) in
          blocks_in-whole copy (b % 8) whole ∙ ap (λ (l : List ℕ). nth_block l (b % 8)) (is_copy ∙ ap new_bytes (sym number))
      by_test false apart =
          let state : new_states (b / 8) ≡ states (b / 8) = marked (b / 8) ∙ rw apart refl in
          let before : IsTrue (is_steady (states (b / 8))) = sym (ap (λ (s : State). is_steady s) state) ∙ is in
          was b before ∙ ap (λ (l : List ℕ). nth_block l (b % 8)) (sym (same (b / 8) (and-left _ _ before)))

-- what a dealing has of the page that was given
abbrev pub given-page : Dealing → ℕ
given-page (Given g) = g.page
given-page (Kept p) = 0
given-page (Lost p) = 0
given-page (Denied p) = 0
given-page (Loaded p) = 0
given-page (Cut n) = 0

abbrev pub given-bytes : Dealing → List ℕ
given-bytes (Given g) = g.bytes.items
given-bytes (Kept p) = []
given-bytes (Lost p) = []
given-bytes (Denied p) = []
given-bytes (Loaded p) = []
given-bytes (Cut n) = []

-- a page that is in memory has all its bytes
pub all-bytes : (slot : Option Slot) → IsTrue (state_of (option_map (λ x. x.mark) slot)).held → length (bytes_of slot) ≡ 4096
all-bytes None never = let impossible : false ≡ true = never in cc
all-bytes (Some slot) held = slot.full

-- the blocks of a copy of a page
pub copy-page : (states : ℕ → State) (bytes : ℕ → List ℕ) (kept : Blocks) (copy : List ℕ) (page : ℕ) → copy ≡ bytes page → (states page).held ≡ true →
    (k : ℕ) → k < 8 → nth_block copy k ≡ stored states bytes kept (8 * page + k)
copy-page states bytes kept copy page is there k below =
    let number : (8 * page + k) / 8 ≡ page = omega (arith, below) in
    let position : (8 * page + k) % 8 ≡ k = omega (arith, below) in
    rw (number, position, there, is) refl

pub copy-given : (states : ℕ → State) (bytes : ℕ → List ℕ) (kept host : Blocks) (copy : List ℕ) (page : ℕ) → copy ≡ bytes page → length copy ≡ 4096 →
    (states page).held ≡ true → (b : ℕ) → with_page page (λ c. blocks_in copy (c % 8)) host b ≡ with_page page (stored states bytes kept) host b
copy-given states bytes kept host copy page is size there b = by_test (b / 8 == page) refl
  where
    by_test : (t : Bool) → (b / 8 == page) ≡ t → (if t then blocks_in copy (b % 8) else host b) ≡ (if t then stored states bytes kept b else host b)
    by_test true here =
        let number : b / 8 ≡ page = grind (arith, nat_tests, here) in
        let whole : length (nth_block copy (b % 8)) ≡ 512 = length-nth_block copy (b % 8) (omega (arith, size)) in
        let block : nth_block copy (b % 8) ≡ stored states bytes kept b = rw (number, there, is) refl in
        blocks_in-whole copy (b % 8) whole ∙ block
    by_test false apart = refl
