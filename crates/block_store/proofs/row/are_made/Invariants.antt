use Rattle.std.proofs.Common.{ℕ, ◌/◌, ◌-◌, ◌≤◌, IsTrue}
use Rattle.block_store.specs.Blocks.{is_within}
use Rattle.block_store.specs.Inner.Kept.{is_made_in}
use Rattle.block_store.proofs.row.are_made.Given as goal

-- the pages of the first blocks keep their bytes
abbrev pub invariant-loop-done : goal.invariant-loop-done
invariant-loop-done l = record {
  within : l.done ≤ l.count;
  made : (b : ℕ) → IsTrue (is_within l.first l.done b) → IsTrue (is_made_in l.row (b / 8));
}

abbrev pub decreases-loop-done : goal.decreases-loop-done
decreases-loop-done l = l.count - l.done
