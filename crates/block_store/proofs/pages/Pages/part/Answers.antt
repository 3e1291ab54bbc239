use Rattle.std.proofs.Common.{◌∙◌, arith}
use Rattle.block_store.specs.Kept.{tree_row}
use Rattle.block_store.proofs.Rows.{run-row}
use Rattle.block_store.proofs.pages.Pages.part.Goals as goal

pub returns : goal.returns
returns c =
    c.part.ensures
    ∙ run-row (tree_row c.args.self.now.held) c.row.result.now c.row_of.result c.in_row_of.result c.args.first c.args.count
    c.row.ensures c.row_of.ensures c.in_row_of.ensures (omega arith)
