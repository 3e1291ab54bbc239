use Rattle.std.specs.Prelude.{IsTrue}
use Rattle.std.proofs.Common.{◌≡◌, ℕ, ◌-◌, ◌≤◌}
use Rattle.block_store.specs.Blocks.{is_within}
use Rattle.block_store.specs.Kept.{kept}
use Rattle.block_store.specs.Inner.Kept.{has_slot}
use Rattle.block_store.proofs.pages.Pages.place_all.Given as goal

-- the first pages have their slots
abbrev pub invariant-loop-done : goal.invariant-loop-done
invariant-loop-done l = record {
  within : l.done ≤ l.count;
  placed : (p : ℕ) → IsTrue (is_within l.start l.done p) → IsTrue (has_slot l.self p);
  kept : (p : ℕ) → kept l.self p ≡ kept l.fn.self p;
}

abbrev pub decreases-loop-done : goal.decreases-loop-done
decreases-loop-done l = l.count - l.done
