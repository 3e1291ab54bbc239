use Rattle.std.proofs.Common.{rules}
use Rattle.block_store.proofs.Changes.{part-cleared, part-absent}
use Rattle.block_store.proofs.row.clear_part.Goals as goal

pub returns-then-page-len-clause-blocks : goal.returns-then-page-len-clause-blocks
returns-then-page-len-clause-blocks c =
    part-cleared c.args.row.now.items c.page_of-page.result c.position_of.result c.args.first c.args.count c.index_mut.result.now c.clear.new.self
    c.page_of-page.ensures c.position_of.ensures c.requires (search rules) c.index_mut.ensures.value c.clear.ensures

pub returns-else-page-len-clause-blocks : goal.returns-else-page-len-clause-blocks
returns-else-page-len-clause-blocks c =
    part-absent c.args.row.now.items c.page_of-page.result c.args.first c.args.count c.page_of-page.ensures c.requires (search rules)
