use Rattle.std.proofs.Common.{◌≡◌, ℕ, ◌/◌, ◌-◌, ◌≤◌, IsTrue, vec_len}
use Rattle.block_store.specs.Blocks.{is_within}
use Rattle.block_store.specs.Inner.Kept.{row_blocks, is_made_in}
use Rattle.block_store.proofs.row.make_all.Given as goal

-- the pages of the first blocks keep their bytes
abbrev pub invariant-loop-done : goal.invariant-loop-done
invariant-loop-done l = record {
  within : l.done ≤ l.count;
  made : (b : ℕ) → IsTrue (is_within l.first l.done b) → IsTrue (is_made_in l.row.items (b / 8));
  others : (p : ℕ) → IsTrue (is_made_in l.fn.row.items p) → IsTrue (is_made_in l.row.items p);
  blocks : (b : ℕ) → row_blocks l.row.items b ≡ row_blocks l.fn.row.items b;
  grows : vec_len l.fn.row ≤ vec_len l.row;
}

abbrev pub decreases-loop-done : goal.decreases-loop-done
decreases-loop-done l = l.count - l.done
