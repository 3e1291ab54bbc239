use Rattle.std.proofs.Common.{◌≡◌, ◌≢◌, ℕ, IsTrue}
use Rattle.std.specs.Prelude.{◌||◌, false, is_some}
use Rattle.block_store.specs.declared.readiness.Readiness.TheVariants.{Ready, Full}
use Rattle.command_model.specs.UnmapList.{descriptors_in, are_in_range, is_named}
use Rattle.block_commands.specs.Inner.Ready.{is_near_any}
use Rattle.block_commands.proofs.Descriptors.{left}
use Rattle.block_commands.proofs.readiness.to_unmap_extents.Given as goal

-- what all name is left, or ready
abbrev pub invariant-loop-i : goal.invariant-loop-i
invariant-loop-i g l = record {
  storage : g.S.Store.storage l.store ≡ g.S.Store.storage l.fn.store;
  same_size : g.S.Store.size l.store ≡ g.S.Store.size l.fn.store;
  range : IsTrue (are_in_range (g.S.Store.size l.store) (left l.count l.i l.taken));
  blocks : (b : ℕ) → g.S.Store.block_at l.store b ≡ g.S.Store.block_at l.fn.store b;
  held : (b : ℕ) → IsTrue (g.S.Store.is_held l.fn.store b) → IsTrue (g.S.Store.is_held l.store b);
  coming : (b : ℕ) → IsTrue (g.S.Store.is_coming l.fn.store b) → IsTrue (g.S.Store.is_coming l.store b);
  keeps_room : (b : ℕ) → IsTrue (g.S.Store.has_room l.fn.store b) → IsTrue (g.S.Store.has_room l.store b);
  whole : is_some (g.S.Store.storage l.fn.store) ≡ false → l.so_far ≡ Ready;
  room : l.so_far ≢ Full → (b : ℕ) → IsTrue (is_named (descriptors_in l.count l.taken) b)
      → IsTrue (is_named (left l.count l.i l.taken) b || g.S.Store.has_room l.store b);
  near : l.so_far ≡ Ready → (b : ℕ) → IsTrue (is_near_any (descriptors_in l.count l.taken) b)
      → IsTrue (is_near_any (left l.count l.i l.taken) b || g.S.Store.is_held l.store b);
  near_asked : l.so_far ≢ Full → (b : ℕ) → IsTrue (is_near_any (descriptors_in l.count l.taken) b)
      → IsTrue (is_near_any (left l.count l.i l.taken) b || g.S.Store.is_coming l.store b);
}
