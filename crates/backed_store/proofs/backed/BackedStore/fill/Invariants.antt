use Rattle.std.proofs.Common.{◌≡◌, ℕ, ◌+◌, ◌-◌, ◌%◌, ◌<◌, ◌≤◌, IsTrue}
use Rattle.block_store.specs.Pages.{covered}
use Rattle.backed_store.specs.Stores.{contents, holds, has_room, IsHost}
use Rattle.backed_store.proofs.backed.BackedStore.fill.Given as goal

-- the first blocks are written, up to the end of a page
abbrev pub invariant-loop-done : goal.invariant-loop-done
invariant-loop-done l = record {
  within : l.done ≤ l.count;
  border : 0 < l.done → l.done < l.count → (l.first + l.done) % 8 ≡ 0;
  blocks : (b : ℕ) → contents l.self b ≡ covered (contents l.fn.self) (λ _. l.block) l.first l.done b;
  held : (b : ℕ) → IsTrue (holds l.fn.self b) → IsTrue (holds l.self b);
  keeps_room : (b : ℕ) → IsTrue (has_room l.fn.self b) → IsTrue (has_room l.self b);
  host : IsHost l.fn.self l.self;
  size : l.self.capacity ≡ l.fn.self.capacity;
}

abbrev pub decreases-loop-done : goal.decreases-loop-done
decreases-loop-done l = l.count - l.done
