use Rattle.std.proofs.Common.{◌≡◌, ℕ, ◌-◌, ◌≤◌, vec_len}
use Rattle.block_store.specs.Blocks.{nth_block}
use Rattle.block_store.specs.Pages.{covered}
use Rattle.block_store.specs.Inner.Kept.{row_blocks, is_made_in}
use Rattle.block_store.proofs.row.put.Given as goal

-- the first blocks are written
abbrev pub invariant-loop-done : goal.invariant-loop-done
invariant-loop-done l = record {
  within : l.done ≤ l.count;
  blocks : (b : ℕ) → row_blocks l.row.items b ≡ covered (row_blocks l.fn.row.items) (λ c. nth_block l.bytes (c - l.first)) l.first l.done b;
  len : vec_len l.row ≡ vec_len l.fn.row;
  made : (p : ℕ) → is_made_in l.row.items p ≡ is_made_in l.fn.row.items p;
}

abbrev pub decreases-loop-done : goal.decreases-loop-done
decreases-loop-done l = l.count - l.done
