-- The pages of a storage.
use Rattle.std.proofs.Common.{◌≡◌, ◌==◌, ℕ, zero, suc, ◌+◌, ◌-◌, ◌*◌, ◌/◌, ◌%◌, ◌<◌, Bool, true, false, if◌then◌else◌, List, ◌++◌, length, take, drop, refl, sym, ◌∙◌, ap, arith}
use Rattle.std.proofs.Math.Seq.{take-append_seam, drop-append-add}
use Rattle.std.proofs.lemmas.Bool.Decides.{nat_tests}
use Rattle.block_store.specs.Blocks.{Blocks, block_count, nth_block, is_within, overwritten, run}
use Rattle.block_store.specs.Pages.{blocks_in}
use Rattle.block_store.specs.Storage.{IsPageOf, with_page}
use Rattle.block_store.specs.Inner.Whole.{length-nth_block}
use Rattle.block_store.proofs.Paging.{blocks_in-whole}
use Rattle.block_store.proofs.Runs.{length-run}

-- a block of a run of whole blocks
pub nth-run : (f : Blocks) (first n k : ℕ) → ((b : ℕ) → length (f b) ≡ 512) → k < n
    → nth_block (run f first n) k ≡ f (first + k)
nth-run f first zero k whole below = absurd (let h = below in omega (arith, h))
nth-run f first (suc n) zero whole below =
    let size : length (f first) ≡ 512 = whole first in
    let none : 512 * zero ≡ 0 = omega arith in
    let here : first ≡ first + zero = omega arith in
    ap (λ i. take 512 (drop i (f first ++ run f (first + 1) n))) none
    ∙ ap (λ i. take i (f first ++ run f (first + 1) n)) (sym size)
    ∙ take-append_seam (f first) (run f (first + 1) n)
    ∙ ap f here
nth-run f first (suc n) (suc k) whole below =
    let size : length (f first) ≡ 512 = whole first in
    let at : 512 * suc k ≡ length (f first) + 512 * k = omega (arith, size) in
    let next : first + 1 + k ≡ first + suc k = omega arith in
    ap (λ i. take 512 (drop i (f first ++ run f (first + 1) n))) at
    ∙ ap (take 512) (drop-append-add (f first) (run f (first + 1) n) (512 * k))
    ∙ nth-run f (first + 1) n k whole (let h = below in omega (arith, h))
    ∙ ap f next

-- the bytes of a page, put over its blocks
pub put-page : (old : Blocks) (page : ℕ) (bytes : List ℕ) → length bytes ≡ 4096 → (b : ℕ)
    → overwritten old (page * 8) bytes b ≡ with_page page (λ i. blocks_in bytes (i % 8)) old b
put-page old page bytes size b = by_test (b / 8 == page) refl
  where
    by_test : (t : Bool) → (b / 8 == page) ≡ t → overwritten old (page * 8) bytes b ≡ (if t then blocks_in bytes (b % 8) else old b)
    by_test true is =
        let within : is_within (page * 8) (block_count bytes) b ≡ true = grind (arith, nat_tests, is, size) in
        let index : b - page * 8 ≡ b % 8 = grind (arith, nat_tests, is) in
        let there : b % 8 < block_count bytes = omega (arith, size) in
        rw (within, index) (sym (blocks_in-whole bytes (b % 8) (length-nth_block bytes (b % 8) there)))
    by_test false is =
        let beside : is_within (page * 8) (block_count bytes) b ≡ false = grind (arith, nat_tests, is, size) in
        rw beside refl

-- and those of a page that a store has
pub put-run : (old f : Blocks) (page : ℕ) (bytes : List ℕ) → ((b : ℕ) → length (f b) ≡ 512) → bytes ≡ run f (8 * page) 8 → (b : ℕ)
    → overwritten old (page * 8) bytes b ≡ with_page page f old b
put-run old f page bytes whole same b = by_test (b / 8 == page) refl
  where
    size : length bytes ≡ 4096
    size = ap length same ∙ length-run f (8 * page) 8 (λ i reaches short. whole i)

    by_test : (t : Bool) → (b / 8 == page) ≡ t → overwritten old (page * 8) bytes b ≡ (if t then f b else old b)
    by_test true is =
        let within : is_within (page * 8) (block_count bytes) b ≡ true = grind (arith, nat_tests, is, size) in
        let there : b - page * 8 < 8 = grind (arith, nat_tests, is) in
        let index : 8 * page + (b - page * 8) ≡ b = grind (arith, nat_tests, is) in
        rw within (ap (λ l. nth_block l (b - page * 8)) same ∙ nth-run f (8 * page) 8 (b - page * 8) whole there ∙ ap f index)
    by_test false is =
        let beside : is_within (page * 8) (block_count bytes) b ≡ false = grind (arith, nat_tests, is, size) in
        rw beside refl

-- a page that is read from a store
pub read-page : (f : Blocks) (page : ℕ) (bytes : List ℕ) → ((b : ℕ) → length (f b) ≡ 512) → bytes ≡ run f (8 * page) 8 → IsPageOf f page bytes
read-page f page bytes whole same k below = ap (λ l. nth_block l k) same ∙ nth-run f (8 * page) 8 k whole below
