use Rattle.std.proofs.Common.{◌≡◌, ℕ, ◌-◌, ◌≤◌, max, vec_len}
use Rattle.block_store.specs.Kept.{row_kept}
use Rattle.block_store.proofs.row.reach.Given as goal

-- the new pages keep no bytes
abbrev pub invariant-loop-alloc : goal.invariant-loop-alloc
invariant-loop-alloc l = record {
  grows : vec_len l.fn.row ≤ vec_len l.row;
  exact : vec_len l.row ≤ max (vec_len l.fn.row) l.len;
  pages : (p : ℕ) → row_kept l.row.items p ≡ row_kept l.fn.row.items p;
}

abbrev pub decreases-loop-alloc : goal.decreases-loop-alloc
decreases-loop-alloc l = l.len - vec_len l.row
