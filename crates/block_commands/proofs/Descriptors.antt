-- A walk along the descriptors of an UNMAP.
use Rattle.std.proofs.Common.{◌≡◌, ℕ, zero, suc, length, ◌+◌, ◌-◌, ◌*◌, ◌<◌, List, [], ◌∷◌, drop, refl, ◌∙◌, ap, arith}
use Rattle.std.proofs.lemmas.List.{drop-drop}
use Rattle.std.proofs.lemmas.List.Sums.{sum_by-cons}
use Rattle.std.specs.Prelude.{◌||◌, ◌&&◌}
use Rattle.block_store.specs.Blocks.{is_within}
use Rattle.command_model.specs.Capacity.{is_in_range}
use Rattle.command_model.specs.Failing.{cuts, are_cut}
use Rattle.command_model.specs.UnmapList.{descriptor, descriptors_in, blocks_named, are_in_range, is_named}
use Rattle.block_store.specs.Inner.Pages.{is_beside}
use Rattle.block_commands.specs.Inner.Ready.{is_near_any}

-- what is left of n descriptors behind the first k
abbrev pub left : ℕ → ℕ → List ℕ → List (ℕ × ℕ)
left n k bytes = descriptors_in (n - k) (drop (16 * k) bytes)

pub left-more : (n k : ℕ) (bytes : List ℕ) → k < n → left n k bytes ≡ descriptor (drop (16 * k) bytes) ∷ left n (k + 1) bytes
left-more n k bytes below =
    let some : n - k ≡ suc (n - (k + 1)) = omega arith in
    let offset : 16 * k + 16 ≡ 16 * (k + 1) = omega arith in
    ap (λ m. descriptors_in m (drop (16 * k) bytes)) some
    ∙ ap (λ l. descriptor (drop (16 * k) bytes) ∷ descriptors_in (n - (k + 1)) l) (drop-drop 16 (16 * k) bytes ∙ ap (λ m. drop m bytes) offset)

pub left-none : (n : ℕ) (bytes : List ℕ) → left n n bytes ≡ []
left-none n bytes =
    let none : n - n ≡ 0 = omega arith in
    ap (λ m. descriptors_in m (drop (16 * n) bytes)) none

pub left-all : (n : ℕ) (bytes : List ℕ) → left n 0 bytes ≡ descriptors_in n bytes
left-all n bytes =
    let all : n - 0 ≡ n = omega arith in
    ap (λ m. descriptors_in m bytes) all

pub length-descriptors_in : (n : ℕ) (bytes : List ℕ) → length (descriptors_in n bytes) ≡ n
length-descriptors_in zero bytes = refl
length-descriptors_in (suc n) bytes = ap suc (length-descriptors_in n (drop 16 bytes))

-- one more descriptor, of these fields
module _ (n k : ℕ) (bytes : List ℕ) (lba count : ℕ) (below : k < n) (first : lba ≡ (descriptor (drop (16 * k) bytes)).0) (size : count ≡ (descriptor (drop (16 * k) bytes)).1) where
  here : left n k bytes ≡ (lba, count) ∷ left n (k + 1) bytes
  here = rw (first, size) (left-more n k bytes below)

  pub blocks_named-more : blocks_named (left n k bytes) ≡ count + blocks_named (left n (k + 1) bytes)
  blocks_named-more = ap blocks_named here ∙ sum_by-cons (λ (d : ℕ × ℕ). d.1) (lba, count) (left n (k + 1) bytes)

  pub are_in_range-more : (blocks : ℕ) → are_in_range blocks (left n k bytes) ≡ (is_in_range blocks lba count && are_in_range blocks (left n (k + 1) bytes))
  are_in_range-more blocks = ap (λ l. are_in_range blocks l) here

  pub is_named-more : (b : ℕ) → is_named (left n k bytes) b ≡ (is_within lba count b || is_named (left n (k + 1) bytes) b)
  is_named-more b = ap (λ l. is_named l b) here

  pub are_cut-more : (blocks p : ℕ) → are_cut blocks (left n k bytes) p ≡ (cuts blocks lba count p || are_cut blocks (left n (k + 1) bytes) p)
  are_cut-more blocks p = ap (λ l. are_cut blocks l p) here

  pub is_near-more : (b : ℕ) → is_near_any (left n k bytes) b ≡ (is_beside lba count b || is_near_any (left n (k + 1) bytes) b)
  is_near-more b = ap (λ l. is_near_any l b) here
