use Rattle.std.proofs.Common.{◌≡◌, ℕ, ◌-◌, ◌≤◌, vec_len}
use Rattle.block_store.specs.Blocks.{zeroed}
use Rattle.block_store.specs.Inner.Kept.{row_blocks}
use Rattle.block_store.proofs.row.clear.Given as goal

-- the first blocks are zeros
abbrev pub invariant-loop-done : goal.invariant-loop-done
invariant-loop-done l = record {
  within : l.done ≤ l.count;
  blocks : (b : ℕ) → row_blocks l.row.items b ≡ zeroed (row_blocks l.fn.row.items) l.first l.done b;
  len : vec_len l.row ≡ vec_len l.fn.row;
}

abbrev pub decreases-loop-done : goal.decreases-loop-done
decreases-loop-done l = l.count - l.done
