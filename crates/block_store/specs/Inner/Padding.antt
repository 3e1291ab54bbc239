-- A block of a page is whole.
use Rattle.std.proofs.Common.{◌≡◌, ℕ, List, ◌++◌, length, arith, length-append}
use Rattle.std.proofs.lemmas.List.{length-take-le, length-replicate}
use Rattle.block_store.specs.Blocks.{nth_block, zero_block}
use Rattle.block_store.specs.Pages.{blocks_in}

pub length-zero_block : length zero_block ≡ 512
unfolding zero_block
length-zero_block = length-replicate {A = ℕ} 512 0

pub length-blocks_in : (bytes : List ℕ) (k : ℕ) → length (blocks_in bytes k) ≡ 512
length-blocks_in bytes k =
    length-take-le 512 (nth_block bytes k ++ zero_block) (omega (arith, length-append (nth_block bytes k) zero_block, length-zero_block))
