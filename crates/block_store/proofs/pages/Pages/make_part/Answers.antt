use Rattle.std.proofs.Common.{◌∙◌, refl}
use Rattle.std.proofs.lemmas.Result.{on_ok_weaker}
use Rattle.block_store.specs.Kept.{tree_row}
use Rattle.block_store.proofs.Rows.{row-same, made-of-row}
use Rattle.block_store.proofs.pages.Pages.make_part.Goals as goal

pub returns-clause-made : goal.returns-clause-made
returns-clause-made c =
    on_ok_weaker c.make_all-made.result (λ made.
    made-of-row (tree_row c.put_row.new.self.held) c.make_all-made.new.row.items c.row_of-number.result c.in_row_of.result c.args.first c.args.count
    c.put_row.ensures.here c.row_of-number.ensures c.in_row_of.ensures c.requires made) c.make_all-made.ensures.made

pub returns-clause-blocks : goal.returns-clause-blocks
returns-clause-blocks c =
    row-same (tree_row c.args.self.now.held) (tree_row c.take-row.new.self) (tree_row c.put_row.new.self.held) c.row_of-number.result
    c.take-row.result.items c.make_all-made.new.row.items
    (record {
      was = c.take-row.ensures.taken ∙ c.in_ok-place.ensures.rows c.row_of-number.result;
      others = λ m apart. c.take-row.ensures.others m refl apart ∙ c.in_ok-place.ensures.rows m;
      now = c.put_row.ensures.here;
      others_now = c.put_row.ensures.others;
    })
    c.make_all-made.ensures.blocks
