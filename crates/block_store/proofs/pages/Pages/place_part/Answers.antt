use Rattle.std.proofs.Common.{◌/◌, ◌∙◌, refl, rules}
use Rattle.block_store.specs.Kept.{tree_row}
use Rattle.block_store.specs.Inner.Kept.{tree_has}
use Rattle.block_store.proofs.Placed.{placed-grown}
use Rattle.block_store.proofs.pages.Pages.place_part.Goals as goal

pub returns-clause-others : goal.returns-clause-others
returns-clause-others c =
    placed-grown (tree_has c.put_row.new.self.held) (tree_has c.args.self.now.held)
    (tree_row c.args.self.now.held) (tree_row c.take-row.new.self) (tree_row c.put_row.new.self.held) (c.args.page / 64)
    c.take-row.result.items c.reach-reached.new.row.items
    (record {
      was = c.take-row.ensures.taken ∙ c.in_ok-place.ensures.rows (c.args.page / 64);
      others = λ m apart. c.take-row.ensures.others m refl apart ∙ c.in_ok-place.ensures.rows m;
      now = c.put_row.ensures.here;
      others_now = c.put_row.ensures.others;
    })
    (λ m had. c.put_row.ensures.slots m ∙ c.take-row.ensures.slots m ∙ c.in_ok-place.ensures.slots m had) (search rules)
