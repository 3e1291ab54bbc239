use Rattle.std.proofs.Common.{◌≡◌, ◌≢◌, ℕ, ◌-◌, ◌≤◌, IsTrue}
use Rattle.block_store.specs.Blocks.{is_within}
use Rattle.block_store.specs.declared.readiness.Readiness.TheVariants.{Ready, Full}
use Rattle.backed_store.specs.Stores.{holds, is_coming, has_room, IsSame, IsHost}
use Rattle.backed_store.proofs.backed.BackedStore.ask_all.Given as goal

-- the pages of the first blocks are seen to
abbrev pub invariant-loop-done : goal.invariant-loop-done
invariant-loop-done l = record {
  within : l.done ≤ l.count;
  ready : l.so_far ≡ Ready → (b : ℕ) → IsTrue (is_within l.first l.done b) → IsTrue (holds l.self b);
  asked : l.so_far ≢ Full → (b : ℕ) → IsTrue (is_within l.first l.done b) → IsTrue (is_coming l.self b);
  same : IsSame l.fn.self l.self;
  host : IsHost l.fn.self l.self;
  held : (b : ℕ) → IsTrue (holds l.fn.self b) → IsTrue (holds l.self b);
  coming : (b : ℕ) → IsTrue (is_coming l.fn.self b) → IsTrue (is_coming l.self b);
  keeps_room : (b : ℕ) → IsTrue (has_room l.fn.self b) → IsTrue (has_room l.self b);
}

abbrev pub decreases-loop-done : goal.decreases-loop-done
decreases-loop-done l = l.count - l.done
