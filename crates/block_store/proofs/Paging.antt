-- Blocks in pages: what becomes of them where a page changes, and where a range is covered part by part.
use Rattle.std.proofs.Common.{◌≡◌, ℕ, true, false, nat_lt, ◌∷◌, ◌+◌, ◌-◌, ◌*◌, ◌/◌, ◌%◌, ◌<◌, ◌≤◌, ◌≢◌, List, [], ◌++◌, length, take, drop, replicate, inl, inr, if◌then◌else◌, refl, sym, ◌∙◌, ap, arith, length-drop}
use Rattle.std.proofs.lemmas.Bool.{cases_eq}
use Rattle.std.proofs.lemmas.Nat.{div-add-mod', div-mul-add, mod_below}
use Rattle.std.proofs.lemmas.Bool.Decides.{nat_tests}
use Rattle.block_store.specs.Inner.Whole.{length-nth_block}
use Rattle.std.proofs.lemmas.List.{take_all, take-append-le, take-take, drop-take, drop-drop, length-take-le, length-replicate}
use Rattle.std.proofs.Math.Seq.{drop-nil}
use Rattle.block_store.specs.Blocks.{Blocks, block_count, nth_block, zero_block, is_within, overwritten, zeroed, run}
use Rattle.block_store.specs.Pages.{covered, blocks_in, paged}
use Rattle.block_store.specs.Inner.Padding.{length-zero_block}
use Rattle.block_store.proofs.Within.{Standing, before, inside, behind, standing, is_within-before, is_within-inside, is_within-behind}
use Rattle.block_store.proofs.Written.{nth_block-replicate}
use Rattle.block_store.proofs.Runs.{run-same, run-whole}

-- a range in one more part
pub covered-next : (old now new given : Blocks) (first done some : ℕ) →
    ((b : ℕ) → now b ≡ covered old given first done b) → ((b : ℕ) → new b ≡ covered now given (first + done) some b) →
    (b : ℕ) → new b ≡ covered old given first (done + some) b
covered-next old now new given first done some so_far step b =
    step b ∙ at_standings (standing first done b) (standing (first + done) some b)
  where
    at_standings : Standing first done b → Standing (first + done) some b → covered now given (first + done) some b ≡ covered old given first (done + some) b
    at_standings _ (inside reaches short) =
        rw (is_within-inside (first + done) some b reaches short, is_within-inside first (done + some) b (omega arith) (omega arith)) refl
    at_standings (before low) (before _) =
        rw (is_within-before (first + done) some b (omega arith), is_within-before first (done + some) b low)
        (so_far b ∙ rw (is_within-before first done b low) refl)
    at_standings (inside reaches short) (before _) =
        rw (is_within-before (first + done) some b short, is_within-inside first (done + some) b reaches (omega arith))
        (so_far b ∙ rw (is_within-inside first done b reaches short) refl)
    at_standings (behind past) (before low) = absurd (omega arith)
    at_standings _ (behind past) =
        rw (is_within-behind (first + done) some b past, is_within-behind first (done + some) b (omega arith))
        (so_far b ∙ rw (is_within-behind first done b (omega arith)) refl)

-- a range of one of the pieces that blocks stand in, of so many each
pub pieces-covered : (size : ℕ) (old new : ℕ → Blocks) (given : Blocks) (first n : ℕ) → 0 < size → first % size + n ≤ size →
    ((p : ℕ) → p ≢ first / size → (k : ℕ) → new p k ≡ old p k) →
    ((k : ℕ) → k < size → new (first / size) k ≡ covered (old (first / size)) (λ j. given (first / size * size + j)) (first % size) n k) →
    (b : ℕ) → new (b / size) (b % size) ≡ covered (λ c. old (c / size) (c % size)) given first n b
pieces-covered size old new given first n some fits others here b =
    elim (cases_eq (b / size) (first / size)) [
      | inl same ↦ in_piece same (standing first n b)
      | inr apart ↦ elsewhere apart (standing first n b)
    ]
  where
    block : b / size * size + b % size ≡ b
    block = div-add-mod' b size

    start : first / size * size + first % size ≡ first
    start = div-add-mod' first size

    in_piece : b / size ≡ first / size → Standing first n b → new (b / size) (b % size) ≡ covered (λ c. old (c / size) (c % size)) given first n b
    in_piece same stands = at_standing stands
      where
        products : b / size * size ≡ first / size * size
        products = ap (λ q. q * size) same

        below : b % size < size
        below = mod_below b size some

        at_standing : Standing first n b → new (b / size) (b % size) ≡ covered (λ c. old (c / size) (c % size)) given first n b
        at_standing (before low) =
            let out : is_within (first % size) n (b % size) ≡ false =
            is_within-before (first % size) n (b % size) (omega (arith, low, block, start, products)) in
            rw (is_within-before first n b low, same) (here (b % size) below ∙ rw out refl)
        at_standing (inside reaches short) =
            let number : first / size * size + b % size ≡ b = omega (arith, block, products) in
            let within : is_within (first % size) n (b % size) ≡ true =
            is_within-inside (first % size) n (b % size) (omega (arith, reaches, block, start, products)) (omega (arith, short, block, start, products)) in
            rw (is_within-inside first n b reaches short, same) (here (b % size) below ∙ rw within (ap given number))
        at_standing (behind past) =
            let out : is_within (first % size) n (b % size) ≡ false =
            is_within-behind (first % size) n (b % size) (omega (arith, past, block, start, products)) in
            rw (is_within-behind first n b past, same) (here (b % size) below ∙ rw out refl)

    elsewhere : b / size ≢ first / size → Standing first n b → new (b / size) (b % size) ≡ covered (λ c. old (c / size) (c % size)) given first n b
    elsewhere apart (before low) = rw (is_within-before first n b low) (others (b / size) apart (b % size))
    elsewhere apart (inside reaches short) =
        let rest : b - first / size * size < size = omega (arith, fits, short, start) in
        let all : first / size * size + (b - first / size * size) ≡ b = omega (arith, reaches, start) in
        absurd (apart (sym (ap (λ c. c / size) all) ∙ div-mul-add (first / size) size (b - first / size * size) rest))
    elsewhere apart (behind past) = rw (is_within-behind first n b past) (others (b / size) apart (b % size))

-- a range of one page
pub paged-covered : (old new : ℕ → List ℕ) (given : Blocks) (first n : ℕ) → first % 8 + n ≤ 8 →
    ((p : ℕ) → p ≢ first / 8 → new p ≡ old p) →
    ((k : ℕ) → k < 8 → blocks_in (new (first / 8)) k ≡ covered (blocks_in (old (first / 8))) (λ j. given (8 * (first / 8) + j)) (first % 8) n k) →
    (b : ℕ) → paged new b ≡ covered (paged old) given first n b
paged-covered old new given first n fits others here =
    pieces-covered 8 (λ p. blocks_in (old p)) (λ p. blocks_in (new p)) given first n (omega arith) fits
    (λ p apart k. ap (λ l. blocks_in l k) (others p apart))
    (λ k below.
    let offset : 8 * (first / 8) + k ≡ first / 8 * 8 + k = omega arith in
    here k below ∙ ap (λ i. if is_within (first % 8) n k then given i else blocks_in (old (first / 8)) k) offset)

-- a whole block isn't padded
pub blocks_in-whole : (bytes : List ℕ) (k : ℕ) → length (nth_block bytes k) ≡ 512 → blocks_in bytes k ≡ nth_block bytes k
blocks_in-whole bytes k size =
    take-append-le 512 (nth_block bytes k) zero_block (omega arith) ∙ take_all 512 (nth_block bytes k) (omega arith)

-- a page that keeps nothing is zeros
pub blocks_in-none : (k : ℕ) → blocks_in [] k ≡ zero_block
blocks_in-none k =
    let none : nth_block [] k ≡ [] = simp drop-nil in
    rw none (take_all 512 zero_block (omega (arith, length-zero_block)))

-- a page of zeros is zeros
pub blocks_in-zeros : (k : ℕ) → k < 8 → blocks_in (replicate 4096 0) k ≡ zero_block
blocks_in-zeros k below =
    let block : nth_block (replicate 4096 0) k ≡ zero_block = nth_block-replicate 8 k below in
    rw block (take-append-le 512 zero_block zero_block (omega (arith, length-zero_block)) ∙ take_all 512 zero_block (omega (arith, length-zero_block)))

-- what is covered of the bytes that a page keeps
pub blocks_in-covered : (old new : List ℕ) (given : Blocks) (from n : ℕ) →
    ((k : ℕ) → from ≤ k → k < from + n → length (given k) ≡ 512) →
    ((k : ℕ) → nth_block new k ≡ covered (nth_block old) given from n k) →
    (k : ℕ) → blocks_in new k ≡ covered (blocks_in old) given from n k
blocks_in-covered old new given from n whole written k = at_standing (standing from n k)
  where
    at_standing : Standing from n k → blocks_in new k ≡ covered (blocks_in old) given from n k
    at_standing (before low) =
        rw (is_within-before from n k low) (ap (λ l. take 512 (l ++ zero_block)) (written k ∙ rw (is_within-before from n k low) refl))
    at_standing (inside reaches short) =
        let here : nth_block new k ≡ given k = written k ∙ rw (is_within-inside from n k reaches short) refl in
        let size : length (given k) ≡ 512 = whole k reaches short in
        rw (is_within-inside from n k reaches short)
        (ap (λ l. take 512 (l ++ zero_block)) here ∙ take-append-le 512 (given k) zero_block (omega arith) ∙ take_all 512 (given k) (omega arith))
    at_standing (behind past) =
        rw (is_within-behind from n k past) (ap (λ l. take 512 (l ++ zero_block)) (written k ∙ rw (is_within-behind from n k past) refl))

-- blocks of zeros, end to end
pub run-zeros : (blocks : Blocks) (first n : ℕ) → ((k : ℕ) → k < n → blocks (first + k) ≡ zero_block) → run blocks first n ≡ replicate (512 * n) 0
run-zeros blocks first n zeros =
    let same : ((k : ℕ) → k < n → blocks (first + k) ≡ nth_block (replicate (512 * n) 0) (0 + k)) = λ k below.
    let offset : 0 + k ≡ k = omega arith in
    rw offset (zeros k below ∙ sym (nth_block-replicate n k below)) in
    run-same blocks (nth_block (replicate (512 * n) 0)) first 0 n same
    ∙ run-whole (replicate (512 * n) 0) n (length-replicate (512 * n) 0)

-- blocks of one page, end to end
pub run-part : (pages : ℕ → List ℕ) (first n : ℕ) → first % 8 + n ≤ 8 → run (blocks_in (pages (first / 8))) (first % 8) n ≡ run (paged pages) first n
run-part pages first n fits =
    let same : ((k : ℕ) → k < n → blocks_in (pages (first / 8)) (first % 8 + k) ≡ paged pages (first + k)) = λ k below.
    let page : (first + k) / 8 ≡ first / 8 = omega arith in
    let position : (first + k) % 8 ≡ first % 8 + k = omega arith in
    rw (page, position) refl in
    run-same (blocks_in (pages (first / 8))) (paged pages) (first % 8) first n same

-- a page that keeps its bytes, and one that keeps none
pub length-unmade : (l : List ℕ) → nat_lt 0 (length l) ≡ false → length l ≡ 0
length-unmade l none = grind (arith, nat_tests)

pub unmade : (l : List ℕ) → nat_lt 0 (length l) ≡ false → l ≡ []
unmade l none = length_zero l (length-unmade l none)
  where
    length_zero : (l : List ℕ) → length l ≡ 0 → l ≡ []
    length_zero [] size = refl
    length_zero (x ∷ xs) size = absurd (omega arith)

pub made : (l : List ℕ) → nat_lt 0 (length l) ≡ true → 0 < length l
made l some = grind (arith, nat_tests)

-- the parts of a page that keeps no bytes
pub run-unmade : (l : List ℕ) (from n : ℕ) → nat_lt 0 (length l) ≡ false → run (blocks_in l) from n ≡ replicate (512 * n) 0
run-unmade l from n none = rw (unmade l none) (run-zeros (blocks_in []) from n (λ k below. blocks_in-none (from + k)))

-- the parts of a page that keeps its bytes
pub run-made : (l : List ℕ) (from n : ℕ) → nat_lt 0 (length l) ≡ true → length l % 4096 ≡ 0 → from + n ≤ 8 → run (blocks_in l) from n ≡ run (nth_block l) from n
run-made l from n some whole fits =
    let held : 0 < length l = made l some in
    let same : ((k : ℕ) → k < n → blocks_in l (from + k) ≡ nth_block l (from + k)) = λ k below.
    blocks_in-whole l (from + k) (length-nth_block l (from + k) (omega arith)) in
    run-same (blocks_in l) (nth_block l) from from n same

-- zeros over a page that keeps no bytes change nothing
pub clear-unmade : (l : List ℕ) (from n : ℕ) → nat_lt 0 (length l) ≡ false → (k : ℕ) → blocks_in l k ≡ zeroed (blocks_in l) from n k
clear-unmade l from n none k = rw (unmade l none) (at_standing (standing from n k))
  where
    at_standing : Standing from n k → blocks_in [] k ≡ zeroed (blocks_in []) from n k
    at_standing (before low) = rw (is_within-before from n k low) refl
    at_standing (inside reaches short) = rw (is_within-inside from n k reaches short) (blocks_in-none k)
    at_standing (behind past) = rw (is_within-behind from n k past) refl

-- a block of a part of the bytes
pub nth_block-part : (bytes : List ℕ) (n done j : ℕ) → 512 * j + 512 ≤ n → nth_block (take n (drop (512 * done) bytes)) j ≡ nth_block bytes (done + j)
nth_block-part bytes n done j fits =
    let cut : drop (512 * j) (take n (drop (512 * done) bytes)) ≡ take (n - 512 * j) (drop (512 * j) (drop (512 * done) bytes)) =
    let all : n ≡ 512 * j + (n - 512 * j) = omega arith in
    ap (λ i. drop (512 * j) (take i (drop (512 * done) bytes))) all ∙ drop-take (512 * j) (n - 512 * j) (drop (512 * done) bytes) in
    let offset : 512 * done + 512 * j ≡ 512 * (done + j) = omega arith in
    let position : drop (512 * j) (drop (512 * done) bytes) ≡ drop (512 * (done + j)) bytes = drop-drop (512 * j) (512 * done) bytes ∙ ap (λ i. drop i bytes) offset in
    ap (λ l. take 512 l) (cut ∙ ap (λ l. take (n - 512 * j) l) position) ∙ take-take 512 (n - 512 * j) (drop (512 * (done + j)) bytes) (omega arith)

-- a part of the bytes over a part of the range
pub chunk-covered : (now : Blocks) (bytes : List ℕ) (first done some n : ℕ) → n ≡ 512 * some → done + some ≤ block_count bytes → (b : ℕ) →
    overwritten now (first + done) (take n (drop (512 * done) bytes)) b ≡ covered now (λ c. nth_block bytes (c - first)) (first + done) some b
chunk-covered now bytes first done some n size fits b = rw count (at_standing (standing (first + done) some b))
  where
    count : block_count (take n (drop (512 * done) bytes)) ≡ some
    count =
        let len : length (take n (drop (512 * done) bytes)) ≡ n = length-take-le n (drop (512 * done) bytes) (rw (length-drop (512 * done) bytes) (omega arith)) in
        omega arith

    at_standing : Standing (first + done) some b →
        (if is_within (first + done) some b then nth_block (take n (drop (512 * done) bytes)) (b - (first + done)) else now b)
        ≡ covered now (λ c. nth_block bytes (c - first)) (first + done) some b
    at_standing (before low) = rw (is_within-before (first + done) some b low) refl
    at_standing (inside reaches short) =
        let position : done + (b - (first + done)) ≡ b - first = omega arith in
        rw (is_within-inside (first + done) some b reaches short)
        (nth_block-part bytes n done (b - (first + done)) (omega arith)
        ∙ ap (λ i. nth_block bytes i) position)
    at_standing (behind past) = rw (is_within-behind (first + done) some b past) refl

-- what was prepared with the bytes, over the range
pub installed-overwritten : (blocks copied prepared : Blocks) (first count : ℕ) (bytes : List ℕ) → length bytes ≡ 512 * count →
    ((b : ℕ) → prepared b ≡ overwritten copied first bytes b) → (b : ℕ) → covered blocks prepared first count b ≡ overwritten blocks first bytes b
installed-overwritten blocks copied prepared first count bytes size made_of b = rw blocks_are (at_standing (standing first count b))
  where
    blocks_are : block_count bytes ≡ count
    blocks_are = omega arith

    at_standing : Standing first count b → covered blocks prepared first count b ≡ (if is_within first count b then nth_block bytes (b - first) else blocks b)
    at_standing (before low) = rw (is_within-before first count b low) refl
    at_standing (inside reaches short) =
        rw (is_within-inside first count b reaches short)
        (made_of b ∙ rw (is_within-inside first (block_count bytes) b reaches (omega arith)) refl)
    at_standing (behind past) = rw (is_within-behind first count b past) refl
