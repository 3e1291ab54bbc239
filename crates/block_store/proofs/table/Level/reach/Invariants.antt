use Rattle.std.proofs.Common.{◌≡◌, ℕ, ◌-◌, ◌+◌, [], false, IsTrue, vec_len}
use Rattle.block_store.specs.Tables.{in_slots}
use Rattle.block_store.proofs.table.Level.reach.Given as goal

-- the new slots have no rows
abbrev pub invariant-loop-alloc : goal.invariant-loop-alloc
invariant-loop-alloc g l = record {
  rows : (m : ℕ) → in_slots g.T.Table.rows g.T.Table.row_at [] l.self.slots.items m ≡ in_slots g.T.Table.rows g.T.Table.row_at [] l.fn.self.slots.items m;
  slots : (m : ℕ) → IsTrue (in_slots g.T.Table.rows g.T.Table.has_row false l.fn.self.slots.items m) → IsTrue (in_slots g.T.Table.rows g.T.Table.has_row false l.self.slots.items m);
}

abbrev pub decreases-loop-alloc : goal.decreases-loop-alloc
decreases-loop-alloc g l = l.slot + 1 - vec_len l.self.slots
