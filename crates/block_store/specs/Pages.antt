-- Blocks in pages of 8.
use Rattle.std.specs.Prelude.{ℕ, ◌/◌, ◌%◌, List, ◌++◌, take, if◌then◌else◌}
use Rattle.block_store.specs.Blocks.{Blocks, nth_block, zero_block, is_within}

-- the blocks with those that `given` has in the count blocks from first on
abbrev pub covered : Blocks → Blocks → ℕ → ℕ → Blocks
covered old given first count b = if is_within first count b then given b else old b

-- the blocks of the bytes that a page keeps: what it lacks is zeros
abbrev pub blocks_in : List ℕ → Blocks
blocks_in bytes k = take 512 (nth_block bytes k ++ zero_block)

-- the blocks of pages, by the bytes that each keeps
abbrev pub paged : (ℕ → List ℕ) → Blocks
paged pages b = blocks_in (pages (b / 8)) (b % 8)
