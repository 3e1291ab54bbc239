use Rattle.std.proofs.Common.{◌≡◌, ℕ, if◌then◌else◌, IsTrue}
use Rattle.block_store.specs.Blocks.{zero_block}
use Rattle.command_model.specs.UnmapList.{descriptors_in, are_in_range, is_named}
use Rattle.block_commands.specs.Inner.Ready.{is_near_any}
use Rattle.block_commands.proofs.Descriptors.{left}
use Rattle.block_commands.proofs.unmap.zero_extents.Given as goal

-- what is left is in range, and makes of the blocks now what all make of those before
abbrev pub invariant-loop-i : goal.invariant-loop-i
invariant-loop-i g l = record {
  storage : g.S.Store.storage l.store ≡ g.S.Store.storage l.fn.store;
  same_size : g.S.Store.size l.store ≡ g.S.Store.size l.fn.store;
  range : IsTrue (are_in_range (g.S.Store.size l.store) (left l.count l.i l.taken));
  zeroed_by : (b : ℕ) → (if is_named (left l.count l.i l.taken) b then zero_block else g.S.Store.block_at l.store b)
      ≡ (if is_named (descriptors_in l.count l.taken) b then zero_block else g.S.Store.block_at l.fn.store b);
  room : (b : ℕ) → IsTrue (is_named (left l.count l.i l.taken) b) → IsTrue (g.S.Store.has_room l.store b);
  near : (b : ℕ) → IsTrue (is_near_any (left l.count l.i l.taken) b) → IsTrue (g.S.Store.is_held l.store b);
}
