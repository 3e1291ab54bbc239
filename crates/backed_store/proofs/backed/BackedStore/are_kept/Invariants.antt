use Rattle.std.proofs.Common.{◌≡◌, ℕ, ◌-◌, ◌≤◌, ◌/◌, false, IsTrue}
use Rattle.block_store.specs.Blocks.{is_within}
use Rattle.backed_store.specs.Stores.{is_dirty}
use Rattle.backed_store.proofs.backed.BackedStore.are_kept.Given as goal

-- no page of the first blocks is dirty
abbrev pub invariant-loop-done : goal.invariant-loop-done
invariant-loop-done l = record {
  within : l.done ≤ l.count;
  clean : (b : ℕ) → IsTrue (is_within l.first l.done b) → is_dirty l.self (b / 8) ≡ false;
}

abbrev pub decreases-loop-done : goal.decreases-loop-done
decreases-loop-done l = l.count - l.done
