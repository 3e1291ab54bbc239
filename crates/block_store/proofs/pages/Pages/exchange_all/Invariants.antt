use Rattle.std.proofs.Common.{◌≡◌, ℕ, ◌-◌, ◌≤◌, vec_len, if◌then◌else◌}
use Rattle.block_store.specs.Blocks.{is_within}
use Rattle.block_store.specs.Kept.{kept, kept_from}
use Rattle.block_store.specs.Inner.Kept.{has_slot}
use Rattle.block_store.proofs.pages.Pages.exchange_all.Given as goal

-- the first pages are exchanged
abbrev pub invariant-loop-done : goal.invariant-loop-done
invariant-loop-done l = record {
  within : l.done ≤ l.count;
  here : (p : ℕ) → kept l.self p ≡ (if is_within l.start l.done p then kept_from l.start l.fn.row.items p else kept l.fn.self p);
  there : (p : ℕ) → kept_from l.start l.row.items p ≡ (if is_within l.start l.done p then kept l.fn.self p else kept_from l.start l.fn.row.items p);
  slots : (p : ℕ) → has_slot l.self p ≡ has_slot l.fn.self p;
  len : vec_len l.row ≡ vec_len l.fn.row;
}

abbrev pub decreases-loop-done : goal.decreases-loop-done
decreases-loop-done l = l.count - l.done
