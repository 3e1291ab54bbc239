use Rattle.std.proofs.Common.{◌≡◌, length, nat_lt, refl}
use Rattle.block_store.specs.Kept.{tree_row}
use Rattle.block_store.proofs.Rows.{row-covered, made-in-row, each-page}
use Rattle.block_store.proofs.pages.Pages.fill_part.Goals as goal

pub fill-requires-clause-made : goal.fill-requires-clause-made
fill-requires-clause-made c =
    made-in-row (tree_row c.args.self.now.held) c.take-row.result.items c.row_of-number.result c.in_row_of.result c.args.first c.args.count
    c.take-row.ensures.taken c.row_of-number.ensures c.in_row_of.ensures c.requires.range c.requires.made

pub returns-clause-blocks : goal.returns-clause-blocks
returns-clause-blocks c =
    row-covered (tree_row c.args.self.now.held) (tree_row c.take-row.new.self) (tree_row c.put_row.new.self.held) c.row_of-number.result
    c.take-row.result.items c.fill.new.row.items
    (record {
      was = c.take-row.ensures.taken;
      others = λ m apart. c.take-row.ensures.others m refl apart;
      now = c.put_row.ensures.here;
      others_now = c.put_row.ensures.others;
    })
    c.in_row_of.result c.args.first c.args.count (λ _. c.args.block.now)
    c.row_of-number.ensures c.in_row_of.ensures c.requires.range c.fill.ensures.blocks

pub returns-clause-made : goal.returns-clause-made
returns-clause-made c =
    each-page (λ l m. nat_lt 0 (length m) ≡ nat_lt 0 (length l)) (λ l. refl)
    (tree_row c.args.self.now.held) (tree_row c.take-row.new.self) (tree_row c.put_row.new.self.held) c.row_of-number.result
    c.take-row.result.items c.fill.new.row.items
    (record {
      was = c.take-row.ensures.taken;
      others = λ m apart. c.take-row.ensures.others m refl apart;
      now = c.put_row.ensures.here;
      others_now = c.put_row.ensures.others;
    })
    c.fill.ensures.made
