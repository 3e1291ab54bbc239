use Rattle.std.proofs.Common.{◌%◌, ◌/◌, ◌∙◌, refl, ap}
use Rattle.block_store.specs.Blocks.{zero_block}
use Rattle.block_store.specs.Pages.{blocks_in}
use Rattle.block_store.specs.Kept.{tree_row}
use Rattle.block_store.proofs.Rows.{row-covered}
use Rattle.block_store.proofs.pages.Pages.clear_part.Goals as goal

pub returns : goal.returns
returns c =
    row-covered (tree_row c.args.self.now.held) (tree_row c.take-row.new.self) (tree_row c.give_back.new.self) c.row_of-number.result
    c.take-row.result.items c.trim.new.row.items
    (record {
      was = c.take-row.ensures.taken;
      others = λ m apart. c.take-row.ensures.others m refl apart;
      now = c.give_back.ensures c.row_of-number.result ∙ c.put_row.ensures.here;
      others_now = λ m apart. c.give_back.ensures m ∙ c.put_row.ensures.others m apart;
    })
    c.in_row_of.result c.args.first c.args.count (λ _. zero_block)
    c.row_of-number.ensures c.in_row_of.ensures c.requires
    (λ k. ap (λ l. blocks_in l (k % 8)) (c.trim.ensures.pages (k / 8)) ∙ c.clear.ensures.blocks k)
