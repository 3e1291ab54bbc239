use Rattle.std.proofs.Common.{◌≡◌, ℕ, ◌-◌, ◌≤◌, vec_len}
use Rattle.block_store.specs.Blocks.{filled}
use Rattle.block_store.specs.Inner.Kept.{row_blocks, is_made_in}
use Rattle.block_store.proofs.row.fill.Given as goal

-- the first blocks are filled
abbrev pub invariant-loop-done : goal.invariant-loop-done
invariant-loop-done l = record {
  within : l.done ≤ l.count;
  blocks : (b : ℕ) → row_blocks l.row.items b ≡ filled (row_blocks l.fn.row.items) l.first l.done l.block b;
  len : vec_len l.row ≡ vec_len l.fn.row;
  made : (p : ℕ) → is_made_in l.row.items p ≡ is_made_in l.fn.row.items p;
}

abbrev pub decreases-loop-done : goal.decreases-loop-done
decreases-loop-done l = l.count - l.done
