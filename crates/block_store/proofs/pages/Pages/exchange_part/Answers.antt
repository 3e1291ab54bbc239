use Rattle.std.proofs.Common.{◌+◌, ◌/◌, ◌%◌, ◌∙◌, refl, rules}
use Rattle.block_store.specs.Kept.{tree_row}
use Rattle.block_store.specs.Inner.Kept.{tree_has}
use Rattle.block_store.proofs.Placed.{placed-same, long-enough, exchanged-here, exchanged-there}
use Rattle.block_store.proofs.pages.Pages.exchange_part.Goals as goal

pub exchange-requires-clause-range : goal.exchange-requires-clause-range
exchange-requires-clause-range c =
    let enough = long-enough (tree_has c.args.self.now.held) (tree_row c.args.self.now.held) c.take-held.result.items ((c.args.start + c.args.done) / 64)
    (c.args.start + c.args.done) c.args.count c.take-held.ensures.taken refl c.requires.some c.requires.part c.requires.placed in
    search rules

pub returns-clause-here : goal.returns-clause-here
returns-clause-here c =
    exchanged-here (tree_row c.args.self.now.held) (tree_row c.take-held.new.self) (tree_row c.put_row.new.self.held) ((c.args.start + c.args.done) / 64)
    c.take-held.result.items c.exchange.new.row.items c.args.row.now.items
    (record {
      was = c.take-held.ensures.taken;
      others = λ m apart. c.take-held.ensures.others m refl apart;
      now = c.put_row.ensures.here;
      others_now = c.put_row.ensures.others;
    })
    c.args.start c.args.done (c.args.start + c.args.done) ((c.args.start + c.args.done) % 64) c.args.count refl refl refl c.requires.part c.exchange.ensures.row

pub returns-clause-there : goal.returns-clause-there
returns-clause-there c =
    exchanged-there (tree_row c.args.self.now.held) ((c.args.start + c.args.done) / 64) c.take-held.result.items c.args.row.now.items c.exchange.new.others.items
    c.args.start c.args.done (c.args.start + c.args.done) ((c.args.start + c.args.done) % 64) c.args.count c.take-held.ensures.taken refl refl refl c.requires.part
    c.exchange.ensures.others

pub returns-clause-slots : goal.returns-clause-slots
returns-clause-slots c =
    placed-same (tree_has c.put_row.new.self.held) (tree_has c.args.self.now.held)
    (tree_row c.args.self.now.held) (tree_row c.take-held.new.self) (tree_row c.put_row.new.self.held) ((c.args.start + c.args.done) / 64)
    c.take-held.result.items c.exchange.new.row.items
    (record {
      was = c.take-held.ensures.taken;
      others = λ m apart. c.take-held.ensures.others m refl apart;
      now = c.put_row.ensures.here;
      others_now = c.put_row.ensures.others;
    })
    (λ m. c.put_row.ensures.slots m ∙ c.take-held.ensures.slots m) (search rules)
