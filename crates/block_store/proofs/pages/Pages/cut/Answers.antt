use Rattle.std.proofs.Common.{◌/◌, ◌∙◌, refl, ap}
use Rattle.block_store.specs.Kept.{row_kept, tree_row}
use Rattle.block_store.proofs.CutOff.{cut-pages}
use Rattle.block_store.proofs.pages.Pages.cut.Goals as goal

pub returns : goal.returns
returns c =
    cut-pages (tree_row c.args.self.now.held) (tree_row c.cut.new.self) (tree_row c.take-row.new.self) (tree_row c.give_back.new.self)
    (c.args.end / 64) c.args.end c.take-row.result.items c.trim.new.row.items refl
    (λ m. c.cut.ensures m refl)
    (record {
      was = c.take-row.ensures.taken;
      others = λ m apart. c.take-row.ensures.others m refl apart;
      now = c.give_back.ensures (c.args.end / 64) ∙ c.put_row.ensures.here;
      others_now = λ m apart. c.give_back.ensures m ∙ c.put_row.ensures.others m apart;
    })
    (λ p. c.trim.ensures.pages p ∙ ap (λ l. row_kept l p) c.truncate.ensures.items)
