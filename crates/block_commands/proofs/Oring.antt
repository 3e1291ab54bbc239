-- Blocks and data, one over the other by OR.
use Rattle.std.proofs.Common.{◌≡◌, ℕ, zero, suc, ◌+◌, ◌-◌, ◌*◌, ◌<◌, ◌≤◌, true, false, List, [], ◌∷◌, ◌++◌, length, take, drop, set, get_or, refl, sym, ap, ◌∙◌, subst, arith, if◌then◌else◌}
use Rattle.std.specs.Prelude.{bit_or}
use Rattle.std.proofs.Math.Seq.{drop-append-add, take-append_seam}
use Rattle.std.proofs.lemmas.Bool.Decides.{nat_tests}
use Rattle.block_store.specs.Blocks.{Blocks, block_count, run, nth_block, is_within, overwritten}
use Rattle.command_model.specs.Effects.{or_bytes}

or-none : (xs : List ℕ) → or_bytes xs [] ≡ []
or-none [] = refl
or-none (x ∷ xs) = refl

take-or : (n : ℕ) (xs ys : List ℕ) → take n (or_bytes xs ys) ≡ or_bytes (take n xs) (take n ys)
take-or zero xs ys = refl
take-or (suc n) [] ys = refl
take-or (suc n) (x ∷ xs) [] = refl
take-or (suc n) (x ∷ xs) (y ∷ ys) = ap (λ l. bit_or x y ∷ l) (take-or n xs ys)

drop-or : (n : ℕ) (xs ys : List ℕ) → drop n (or_bytes xs ys) ≡ or_bytes (drop n xs) (drop n ys)
drop-or zero xs ys = refl
drop-or (suc n) [] ys = refl
drop-or (suc n) (x ∷ xs) [] = sym (or-none (drop n xs))
drop-or (suc n) (x ∷ xs) (y ∷ ys) = drop-or n xs ys

nth_block-or : (xs ys : List ℕ) (k : ℕ) → nth_block (or_bytes xs ys) k ≡ or_bytes (nth_block xs k) (nth_block ys k)
nth_block-or xs ys k = ap (take 512) (drop-or (512 * k) xs ys) ∙ take-or 512 (drop (512 * k) xs) (drop (512 * k) ys)

-- a block of a run of whole blocks
nth_block-run : (blocks : Blocks) (first n k limit : ℕ) → k < n → first + n ≤ limit → ((b : ℕ) → b < limit → length (blocks b) ≡ 512)
    → nth_block (run blocks first n) k ≡ blocks (first + k)
nth_block-run blocks first zero k limit inside below whole = absurd (omega arith)
nth_block-run blocks first (suc n) zero limit inside below whole =
    let rest = run blocks (first + 1) n in
    let size : length (blocks first) ≡ 512 = whole first (omega arith) in
    let same : first ≡ first + 0 = omega arith in
    subst (λ m. take m (blocks first ++ rest) ≡ blocks first) size (take-append_seam (blocks first) rest) ∙ ap blocks same
nth_block-run blocks first (suc n) (suc k) limit inside below whole =
    let rest = run blocks (first + 1) n in
    let size : length (blocks first) ≡ 512 = whole first (omega arith) in
    let offset : 512 * suc k ≡ length (blocks first) + 512 * k = omega (arith, size) in
    let same : first + 1 + k ≡ first + suc k = omega arith in
    ap (λ m. take 512 (drop m (blocks first ++ rest))) offset
    ∙ ap (take 512) (drop-append-add (blocks first) rest (512 * k))
    ∙ nth_block-run blocks (first + 1) n k limit (omega arith) (omega arith) whole
    ∙ ap blocks same

-- the blocks that the OR of a run and its data is put over
pub overwritten-or : (blocks : Blocks) (lba n limit : ℕ) (bytes held : List ℕ) → lba + n ≤ limit
    → ((b : ℕ) → b < limit → length (blocks b) ≡ 512) → length held ≡ 512 * n → held ≡ or_bytes (run blocks lba n) bytes → (b : ℕ)
    → overwritten blocks lba held b ≡ (if is_within lba n b then or_bytes (blocks b) (nth_block bytes (b - lba)) else blocks b)
overwritten-or blocks lba n limit bytes held below whole size is b =
    let count : block_count held ≡ n = omega (arith, size) in
    ap (λ m. if is_within lba m b then nth_block held (b - lba) else blocks b) count
    ∙ (elim (is_within lba n b) as (λ x. is_within lba n b ≡ x
    → (if x then nth_block held (b - lba) else blocks b) ≡ (if x then or_bytes (blocks b) (nth_block bytes (b - lba)) else blocks b)) [
      | true ↦ λ e. here (let h = e in grind (arith, nat_tests)) (let h = e in grind (arith, nat_tests))
      | false ↦ λ e. refl
    ]) refl
  where
    here : lba ≤ b → b < lba + n → nth_block held (b - lba) ≡ or_bytes (blocks b) (nth_block bytes (b - lba))
    here from to =
        let number : lba + (b - lba) ≡ b = omega (arith, from) in
        ap (λ l. nth_block l (b - lba)) is
        ∙ nth_block-or (run blocks lba n) bytes (b - lba)
        ∙ ap (λ l. or_bytes l (nth_block bytes (b - lba)))
        (nth_block-run blocks lba n (b - lba) limit (omega (arith, from, to)) below whole ∙ ap blocks number)

or-next : (xs ys : List ℕ) (i : ℕ) → i < length xs → i < length ys →
    let now = or_bytes (take i xs) (take i ys) ++ drop i xs in
    set now i (bit_or (get_or now i 0) (get_or ys i 0)) ≡ or_bytes (take (suc i) xs) (take (suc i) ys) ++ drop (suc i) xs
or-next [] ys i inside within = absurd (omega arith)
or-next (x ∷ xs) [] i inside within = absurd (omega arith)
or-next (x ∷ xs) (y ∷ ys) zero inside within = refl
or-next (x ∷ xs) (y ∷ ys) (suc i) inside within = ap (λ l. bit_or x y ∷ l) (or-next xs ys i (omega arith) (omega arith))

-- one byte more of the first so many
pub or_more : (xs ys now : List ℕ) (i : ℕ) → i < length xs → i < length ys → now ≡ or_bytes (take i xs) (take i ys) ++ drop i xs
    → set now i (bit_or (get_or now i 0) (get_or ys i 0)) ≡ or_bytes (take (i + 1) xs) (take (i + 1) ys) ++ drop (i + 1) xs
or_more xs ys now i inside within is =
    let one : suc i ≡ i + 1 = omega arith in
    ap (λ l. set l i (bit_or (get_or l i 0) (get_or ys i 0))) is ∙ or-next xs ys i inside within
    ∙ ap (λ m. or_bytes (take m xs) (take m ys) ++ drop m xs) one
