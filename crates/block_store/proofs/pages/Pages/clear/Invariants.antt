use Rattle.std.proofs.Common.{◌≡◌, ℕ, ◌-◌, ◌≤◌}
use Rattle.block_store.specs.Blocks.{zeroed}
use Rattle.block_store.specs.Kept.{blocks_of}
use Rattle.block_store.proofs.pages.Pages.clear.Given as goal

-- the first blocks are zeros
abbrev pub invariant-loop-done : goal.invariant-loop-done
invariant-loop-done l = record {
  within : l.done ≤ l.count;
  blocks : (b : ℕ) → blocks_of l.self b ≡ zeroed (blocks_of l.fn.self) l.first l.done b;
}

abbrev pub decreases-loop-done : goal.decreases-loop-done
decreases-loop-done l = l.count - l.done
