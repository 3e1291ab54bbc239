use Rattle.std.proofs.Common.{◌≡◌, ℕ, [], vec_len}
use Rattle.block_store.specs.Tables.{in_slots}
use Rattle.block_store.proofs.table.Level.trim.Given as goal

-- the slots that were dropped had no rows
abbrev pub invariant-loop-self : goal.invariant-loop-self
invariant-loop-self g l = (m : ℕ) → in_slots g.T.Table.rows g.T.Table.row_at [] l.self.slots.items m ≡ in_slots g.T.Table.rows g.T.Table.row_at [] l.fn.self.slots.items m

abbrev pub decreases-loop-self : goal.decreases-loop-self
decreases-loop-self g l = vec_len l.self.slots
