use Rattle.std.proofs.Common.{◌≡◌, ℕ}
use Rattle.block_store.specs.Blocks.{nth_block, filled}
use Rattle.block_store.proofs.bytes.put_copies.Given as goal

-- the positions before i have the block
abbrev pub invariant-loop-i : goal.invariant-loop-i
invariant-loop-i l = (b : ℕ) → nth_block l.held b ≡ filled (nth_block l.fn.held) l.first l.i l.block b
