use Rattle.std.proofs.Common.{◌≡◌, ℕ, ◌≤◌, vec_len}
use Rattle.block_store.specs.Kept.{row_kept}
use Rattle.block_store.proofs.row.trim.Given as goal

-- the pages that were dropped kept no bytes
abbrev pub invariant-loop-row : goal.invariant-loop-row
invariant-loop-row l = record {
  shorter : vec_len l.row ≤ vec_len l.fn.row;
  pages : (p : ℕ) → row_kept l.row.items p ≡ row_kept l.fn.row.items p;
}

abbrev pub decreases-loop-row : goal.decreases-loop-row
decreases-loop-row l = vec_len l.row
