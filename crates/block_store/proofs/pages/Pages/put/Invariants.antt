use Rattle.std.proofs.Common.{◌≡◌, ℕ, ◌-◌, ◌≤◌}
use Rattle.block_store.specs.Blocks.{nth_block}
use Rattle.block_store.specs.Pages.{covered}
use Rattle.block_store.specs.Kept.{blocks_of}
use Rattle.block_store.specs.Inner.Kept.{is_made}
use Rattle.block_store.proofs.pages.Pages.put.Given as goal

-- the first blocks are written
abbrev pub invariant-loop-done : goal.invariant-loop-done
invariant-loop-done l = record {
  within : l.done ≤ l.count;
  blocks : (b : ℕ) → blocks_of l.self b ≡ covered (blocks_of l.fn.self) (λ c. nth_block l.bytes (c - l.first)) l.first l.done b;
  made : (p : ℕ) → is_made l.self p ≡ is_made l.fn.self p;
}

abbrev pub decreases-loop-done : goal.decreases-loop-done
decreases-loop-done l = l.count - l.done
