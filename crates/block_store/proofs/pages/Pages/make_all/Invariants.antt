use Rattle.std.proofs.Common.{◌≡◌, ℕ, ◌/◌, ◌-◌, ◌≤◌, IsTrue}
use Rattle.block_store.specs.Blocks.{is_within}
use Rattle.block_store.specs.Kept.{blocks_of}
use Rattle.block_store.specs.Inner.Kept.{is_made}
use Rattle.block_store.proofs.pages.Pages.make_all.Given as goal

-- the pages of the first blocks keep their bytes
abbrev pub invariant-loop-done : goal.invariant-loop-done
invariant-loop-done l = record {
  within : l.done ≤ l.count;
  made : (b : ℕ) → IsTrue (is_within l.first l.done b) → IsTrue (is_made l.self (b / 8));
  blocks : (b : ℕ) → blocks_of l.self b ≡ blocks_of l.fn.self b;
}

abbrev pub decreases-loop-done : goal.decreases-loop-done
decreases-loop-done l = l.count - l.done
