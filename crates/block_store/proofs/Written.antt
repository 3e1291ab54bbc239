-- The blocks of a run of bytes, and of one that was written.
use Rattle.std.proofs.Common.{◌≡◌, ℕ, zero, suc, ◌+◌, ◌-◌, ◌*◌, ◌%◌, ◌<◌, ◌≤◌, List, ◌++◌, length, take, drop, replicate, if◌then◌else◌, refl, sym, ◌∙◌, ap, arith}
use Rattle.std.proofs.lemmas.List.{drop-replicate, take-replicate, take_all, length-replicate}
use borrow.Rule.Slice.PartMut.{put_mid}
use Rattle.block_store.specs.Blocks.{Blocks, block_count, nth_block, zero_block, is_within, overwritten, filled, zeroed, run}
use Rattle.block_store.proofs.Parts.{join_parts, part_before, part_behind, part_inside}
use Rattle.block_store.proofs.Within.{Standing, before, inside, behind, standing, is_within-before, is_within-inside, is_within-behind}

-- the blocks of a run end to end are a part of it
pub run-nth_block : (bytes : List ℕ) (first n : ℕ) → run (nth_block bytes) first n ≡ take (512 * n) (drop (512 * first) bytes)
run-nth_block bytes first zero = refl
run-nth_block bytes first (suc n) =
    let rest : run (nth_block bytes) (first + 1) n ≡ take (512 * n) (drop (512 * (first + 1)) bytes) = run-nth_block bytes (first + 1) n in
    let next : 512 * (first + 1) ≡ 512 * first + 512 = omega arith in
    let all : 512 + 512 * n ≡ 512 * suc n = omega arith in
    ap (λ l. nth_block bytes first ++ l) (rest ∙ ap (λ i. take (512 * n) (drop i bytes)) next)
    ∙ join_parts bytes (512 * first) 512 (512 * n)
    ∙ ap (λ i. take i (drop (512 * first) bytes)) all

-- bytes that were written over a run are blocks that were overwritten
pub put-overwritten : (xs ys : List ℕ) (first a k b : ℕ) → a ≡ 512 * first → k ≡ length ys → length ys % 512 ≡ 0 → first + block_count ys ≤ block_count xs →
    nth_block (put_mid a k xs ys) b ≡ overwritten (nth_block xs) first ys b
put-overwritten xs ys first a k b position size whole range = at_standing (standing first (block_count ys) b)
  where
    at_standing : Standing first (block_count ys) b → nth_block (put_mid a k xs ys) b ≡ overwritten (nth_block xs) first ys b
    at_standing (before low) =
        rw (is_within-before first (block_count ys) b low)
        (part_before a k xs ys (512 * b) 512 (omega arith) (omega arith))
    at_standing (inside reaches short) =
        let offset : 512 * b ≡ a + 512 * (b - first) = omega arith in
        rw (is_within-inside first (block_count ys) b reaches short, offset)
        (part_inside a k xs ys (512 * (b - first)) 512 (omega arith) (omega arith))
    at_standing (behind past) =
        rw (is_within-behind first (block_count ys) b past)
        (part_behind a k xs ys (512 * b) 512 (omega arith) (omega arith) (sym size))

-- each block of zeros is a block of zeros
pub nth_block-replicate : (n k : ℕ) → k < n → nth_block (replicate (512 * n) 0) k ≡ zero_block
unfolding zero_block
nth_block-replicate n k below =
    ap (λ l. take 512 l) (drop-replicate (512 * k) (512 * n) 0) ∙ take-replicate 512 (512 * n - 512 * k) 0 (omega arith)

-- writing bytes whose blocks are all alike is filling
pub overwritten-alike : (old : Blocks) (first n : ℕ) (ys block : List ℕ) → block_count ys ≡ n → ((k : ℕ) → k < n → nth_block ys k ≡ block) →
    (b : ℕ) → overwritten old first ys b ≡ filled old first n block b
overwritten-alike old first n ys block count alike b = rw count (at_standing (standing first n b))
  where
    at_standing : Standing first n b → (if is_within first n b then nth_block ys (b - first) else old b) ≡ filled old first n block b
    at_standing (before low) = rw (is_within-before first n b low) refl
    at_standing (inside reaches short) = rw (is_within-inside first n b reaches short) (alike (b - first) (omega arith))
    at_standing (behind past) = rw (is_within-behind first n b past) refl

-- zeros that were written over a run are blocks of zeros
pub put-zeroed : (xs : List ℕ) (first n a k b : ℕ) → a ≡ 512 * first → k ≡ 512 * n → first + n ≤ block_count xs →
    nth_block (put_mid a k xs (replicate k 0)) b ≡ zeroed (nth_block xs) first n b
put-zeroed xs first n a k b position size range =
    let len : length (replicate k 0) ≡ k = length-replicate k 0 in
    let whole : length (replicate k 0) % 512 ≡ 0 = rw len (omega arith) in
    let count : block_count (replicate k 0) ≡ n = rw len (omega arith) in
    let fits : first + block_count (replicate k 0) ≤ block_count xs = rw count range in
    let alike : ((j : ℕ) → j < n → nth_block (replicate k 0) j ≡ zero_block) = λ j below. rw size (nth_block-replicate n j below) in
    put-overwritten xs (replicate k 0) first a k b position (sym len) whole fits
    ∙ overwritten-alike (nth_block xs) first n (replicate k 0) zero_block count alike b

-- one block is a run of one
pub nth_block-alone : (block : List ℕ) → length block ≡ 512 → (k : ℕ) → k < 1 → nth_block block k ≡ block
nth_block-alone block size zero below = take_all 512 block (omega arith)
nth_block-alone block size (suc k) below = absurd (omega arith)

-- a block at one more position
pub filled-next : (old now new : Blocks) (first i : ℕ) (block : List ℕ) → length block ≡ 512 →
    ((b : ℕ) → now b ≡ filled old first i block b) → ((b : ℕ) → new b ≡ overwritten now (first + i) block b) →
    (b : ℕ) → new b ≡ filled old first (i + 1) block b
filled-next old now new first i block size so_far step b =
    step b ∙ overwritten-alike now (first + i) 1 block block one (nth_block-alone block size) b ∙ at_standings (standing first i b) (standing (first + i) 1 b)
  where
    one : block_count block ≡ 1
    one = omega arith

    at_standings : Standing first i b → Standing (first + i) 1 b → filled now (first + i) 1 block b ≡ filled old first (i + 1) block b
    at_standings _ (inside reaches short) =
        rw (is_within-inside (first + i) 1 b reaches short, is_within-inside first (i + 1) b (omega arith) (omega arith)) refl
    at_standings (before low) (before _) =
        rw (is_within-before (first + i) 1 b (omega arith), is_within-before first (i + 1) b low)
        (so_far b ∙ rw (is_within-before first i b low) refl)
    at_standings (inside reaches short) (before _) =
        rw (is_within-before (first + i) 1 b short, is_within-inside first (i + 1) b reaches (omega arith))
        (so_far b ∙ rw (is_within-inside first i b reaches short) refl)
    at_standings (behind past) (before low) = absurd (omega arith)
    at_standings _ (behind past) =
        rw (is_within-behind (first + i) 1 b past, is_within-behind first (i + 1) b (omega arith))
        (so_far b ∙ rw (is_within-behind first i b (omega arith)) refl)
