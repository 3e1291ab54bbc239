-- Blocks of zeros, and how many blocks are alike.
use Rattle.std.proofs.Common.{◌≡◌, ℕ, zero, suc, ◌+◌, ◌<◌, ◌≤◌, true, false, Bool, List, [], ◌∷◌, length, replicate, refl, ap, ◌∙◌, arith, eqb}
use Rattle.std.specs.Prelude.{not, ◌==◌, ◌&&◌, ◌≢◌, if◌then◌else◌}
use Rattle.std.specs.List.{range_with_len}
use Rattle.std.specs.Bool.{beq}
use Rattle.std.specs.Str.{bytes_eq}
use Rattle.std.proofs.lemmas.Slice.Eq.{bytes_eq-Decides}
use Rattle.std.proofs.lemmas.Bool.Decides.{nat_tests}
use Rattle.std.proofs.lemmas.List.Sums.{prefix_len_is}
use Rattle.std.proofs.lemmas.List.FromFn.{length-range_with_len, get_or-range_with_len}
use Rattle.block_store.specs.Blocks.{Blocks}
use Rattle.command_model.specs.Provisioning.{alike, is_zero, provisioning}

zeros_are : (n : ℕ) → is_zero (replicate n 0) ≡ true
zeros_are zero = refl
zeros_are (suc n) = zeros_are n

are_zeros : (block : List ℕ) → is_zero block ≡ true → block ≡ replicate (length block) 0
are_zeros [] is = refl
are_zeros (x ∷ rest) is =
    elim (eqb x 0) as (λ b. eqb x 0 ≡ b → (b && is_zero rest) ≡ true → (x ∷ rest) ≡ (0 ∷ replicate (length rest) 0)) [
      | true ↦ λ e later.
          let none : x ≡ 0 = grind (arith, nat_tests) in
          ap (λ y. y ∷ rest) none ∙ ap (λ l. 0 ∷ l) (are_zeros rest later)
      | false ↦ λ e later. absurd (cc)
    ] refl is

-- a block is compared whole with as many zeros
pub zeros_compared : (block : List ℕ) (n : ℕ) → length block ≡ n → bytes_eq block (replicate n 0) ≡ is_zero block
zeros_compared block n size =
    elim (is_zero block) as (λ b. is_zero block ≡ b → bytes_eq block (replicate n 0) ≡ b) [
      | true ↦ λ e. (bytes_eq-Decides block (replicate n 0)).1 (are_zeros block e ∙ ap (λ k. replicate k 0) size)
      | false ↦ λ e.
          elim (bytes_eq block (replicate n 0)) as (λ b. bytes_eq block (replicate n 0) ≡ b → b ≡ false) [
            | true ↦ λ same.
                let equal : block ≡ replicate n 0 = (bytes_eq-Decides block (replicate n 0)).0 same in
                let zeros : is_zero block ≡ true = ap is_zero equal ∙ zeros_are n in
                absurd (cc)
            | false ↦ λ _. refl
          ] refl
    ] refl

-- whether block b has the status of the block at the address
abbrev pub is_alike : Blocks → ℕ → ℕ → Bool
is_alike blocks lba b = provisioning (blocks b) == provisioning (blocks lba)

pub is_alike-same : (blocks : Blocks) (lba b : ℕ) → is_zero (blocks b) ≡ is_zero (blocks lba) → is_alike blocks lba b ≡ true
is_alike-same blocks lba b same = status (is_zero (blocks b)) (is_zero (blocks lba)) same
  where
    status : (x y : Bool) → x ≡ y → ((if x then 0x01 else 0x00) == (if y then 0x01 else 0x00)) ≡ true
    status true true same = refl
    status false false same = refl
    status true false same = absurd (cc)
    status false true same = absurd (cc)

pub is_alike-other : (blocks : Blocks) (lba b : ℕ) → is_zero (blocks b) ≢ is_zero (blocks lba) → is_alike blocks lba b ≡ false
is_alike-other blocks lba b differ = status (is_zero (blocks b)) (is_zero (blocks lba)) differ
  where
    status : (x y : Bool) → x ≢ y → ((if x then 0x01 else 0x00) == (if y then 0x01 else 0x00)) ≡ false
    status true true differ = absurd (differ refl)
    status false false differ = absurd (differ refl)
    status true false differ = refl
    status false true differ = refl

-- two Bools that were compared differ
pub differ : (x y : Bool) → not (beq x y) ≡ true → x ≢ y
differ true true told same = absurd (cc)
differ false false told same = absurd (cc)
differ true false told same = absurd (cc)
differ false true told same = absurd (cc)

-- so many are alike where each before is, and the next isn't, if there is one
pub alike_is : (blocks : Blocks) (lba count n : ℕ) → n ≤ count →
    ((j : ℕ) → j < n → is_alike blocks lba (lba + j) ≡ true) →
    (n < count → is_alike blocks lba (lba + n) ≡ false) → alike blocks lba count ≡ n
alike_is blocks lba count n le before at =
    let size : length (range_with_len lba count) ≡ count = length-range_with_len lba count in
    prefix_len_is (is_alike blocks lba) (range_with_len lba count) n 0 (omega (arith, size))
    (λ j less. rw (get_or-range_with_len lba count j 0 (omega (arith, le, less))) (before j less))
    (λ less.
    let inside : n < count = omega (arith, size, less) in
    rw (get_or-range_with_len lba count n 0 inside) (at inside))
