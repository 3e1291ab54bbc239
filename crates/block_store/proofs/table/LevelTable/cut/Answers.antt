use Rattle.std.proofs.Common.{◌%◌, [], rules}
use Rattle.block_store.proofs.CutSlots.{cut-at, cut-none}
use Rattle.block_store.proofs.table.LevelTable.cut.Goals as goal

pub returns-then-slot-len : goal.returns-then-slot-len
returns-then-slot-len g c = λ m any.
    cut-at g.T.Table.rows c.rows.result c.rows-then-slot-len.result g.T.Table.row_at [] c.args.self.now.slots.items c.truncate.new.self.items c.args.end
    c.index_mut.result.now c.cut.new.self g.met.T.Table.some c.rows.ensures c.rows-then-slot-len.ensures
    c.truncate.ensures.items (search rules) c.index_mut.ensures.value (λ m. c.cut.ensures (m % g.T.Table.rows) (g.met.T.Table.within m)) m

pub returns-else-slot-len : goal.returns-else-slot-len
returns-else-slot-len g c = λ m any.
    cut-none g.T.Table.rows g.T.Table.row_at [] c.args.self.now.slots.items c.args.end g.met.T.Table.some (search rules) m
