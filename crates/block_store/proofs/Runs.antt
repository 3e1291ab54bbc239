-- The bytes of blocks, end to end.
use Rattle.std.proofs.Common.{◌≡◌, ℕ, zero, suc, ◌+◌, ◌-◌, ◌*◌, ◌<◌, ◌≤◌, List, ◌++◌, length, replicate, refl, sym, ◌∙◌, ap, arith, add-zero, append_assoc, length-append}
use Rattle.std.proofs.lemmas.List.{take_all, length-replicate}
use Rattle.block_store.specs.Blocks.{Blocks, block_count, nth_block, overwritten, zeroed, run}
use Rattle.block_store.proofs.Within.{is_within-inside}
use Rattle.block_store.proofs.Written.{run-nth_block, nth_block-replicate}

-- runs of equal blocks are equal
pub run-same : (p q : Blocks) (first from n : ℕ) → ((k : ℕ) → k < n → p (first + k) ≡ q (from + k)) → run p first n ≡ run q from n
run-same p q first from zero same = refl
run-same p q first from (suc n) same =
    let here : p first ≡ q from = simp add-zero at (same 0 (omega arith)) in
    let later : ((k : ℕ) → k < n → p (first + 1 + k) ≡ q (from + 1 + k)) = λ k below.
    let left : first + (k + 1) ≡ first + 1 + k = omega arith in
    let right : from + (k + 1) ≡ from + 1 + k = omega arith in
    sym (ap p left) ∙ same (k + 1) (omega arith) ∙ ap q right in
    let rest : run p (first + 1) n ≡ run q (from + 1) n = run-same p q (first + 1) (from + 1) n later in
    ap (λ l. l ++ run p (first + 1) n) here ∙ ap (λ l. q from ++ l) rest

-- the blocks of bytes give the bytes
pub run-whole : (bytes : List ℕ) (n : ℕ) → length bytes ≡ 512 * n → run (nth_block bytes) 0 n ≡ bytes
run-whole bytes n size = run-nth_block bytes 0 n ∙ take_all (512 * n) bytes (omega arith)

pub run-overwritten : (blocks : Blocks) (first n : ℕ) (bytes : List ℕ) → length bytes ≡ 512 * n → run (overwritten blocks first bytes) first n ≡ bytes
run-overwritten blocks first n bytes size =
    let count : block_count bytes ≡ n = omega arith in
    let same : ((k : ℕ) → k < n → overwritten blocks first bytes (first + k) ≡ nth_block bytes (0 + k)) = λ k below.
    let offset : first + k - first ≡ 0 + k = omega arith in
    rw (is_within-inside first (block_count bytes) (first + k) (omega arith) (omega arith), offset) refl in
    run-same (overwritten blocks first bytes) (nth_block bytes) first 0 n same ∙ run-whole bytes n size

pub run-zeroed : (blocks : Blocks) (first n : ℕ) → run (zeroed blocks first n) first n ≡ replicate (512 * n) 0
run-zeroed blocks first n =
    let same : ((k : ℕ) → k < n → zeroed blocks first n (first + k) ≡ nth_block (replicate (512 * n) 0) (0 + k)) = λ k below.
    let offset : 0 + k ≡ k = omega arith in
    rw (is_within-inside first n (first + k) (omega arith) (omega arith), offset) (sym (nth_block-replicate n k below)) in
    run-same (zeroed blocks first n) (nth_block (replicate (512 * n) 0)) first 0 n same
    ∙ run-whole (replicate (512 * n) 0) n (length-replicate (512 * n) 0)

pub run-add : (blocks : Blocks) (first n m : ℕ) → run blocks first (n + m) ≡ run blocks first n ++ run blocks (first + n) m
run-add blocks first zero m =
    let none : zero + m ≡ m = omega arith in
    let start : first + zero ≡ first = omega arith in
    ap (λ i. run blocks first i) none ∙ ap (λ i. run blocks i m) (sym start)
run-add blocks first (suc n) m =
    let more : suc n + m ≡ suc (n + m) = omega arith in
    let start : first + 1 + n ≡ first + suc n = omega arith in
    ap (λ i. run blocks first i) more
    ∙ ap (λ l. blocks first ++ l) (run-add blocks (first + 1) n m)
    ∙ sym (append_assoc (blocks first) (run blocks (first + 1) n) (run blocks (first + 1 + n) m))
    ∙ ap (λ i. run blocks first (suc n) ++ run blocks i m) start

pub length-run : (blocks : Blocks) (first n : ℕ) → ((b : ℕ) → first ≤ b → b < first + n → length (blocks b) ≡ 512) → length (run blocks first n) ≡ 512 * n
length-run blocks first zero whole = refl
length-run blocks first (suc n) whole =
    let here : length (blocks first) ≡ 512 = whole first (omega arith) (omega arith) in
    let later : length (run blocks (first + 1) n) ≡ 512 * n = length-run blocks (first + 1) n (λ b reaches short. whole b (omega arith) (omega arith)) in
    omega (arith, length-append (blocks first) (run blocks (first + 1) n))
