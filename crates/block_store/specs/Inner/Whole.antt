-- A block of a run of bytes is whole.
use Rattle.std.proofs.Common.{◌≡◌, ℕ, ◌*◌, ◌<◌, List, length, drop, arith, length-drop}
use Rattle.std.proofs.lemmas.List.{length-take-le}
use Rattle.block_store.specs.Blocks.{block_count, nth_block}

-- block b has 512 bytes where the run has it
pub length-nth_block : (bytes : List ℕ) (b : ℕ) → b < block_count bytes → length (nth_block bytes b) ≡ 512
length-nth_block bytes b below =
    length-take-le 512 (drop (512 * b) bytes) (rw (length-drop (512 * b) bytes) (omega arith))
