use Rattle.std.proofs.Common.{◌∙◌, arith}
use Rattle.block_store.specs.Kept.{kept, kept_from}
use Rattle.block_store.proofs.Placed.{exchanged-further}
use Rattle.block_store.proofs.pages.Pages.exchange_all.Goals as goal

pub loop-done-preserved : goal.loop-done-preserved
loop-done-preserved c =
    let start = c.args.start in
    let done = c.loop-done.done in
    let some = c.of_row-some.result in
    let held = kept c.args.self.now in
    let given = kept_from start c.args.row.now.items in
    let so_far = c.loop-done.invariant in
    record {
      within = omega arith;
      here = exchanged-further held given (kept c.loop-done.self) (kept_from start c.loop-done.row.items) (kept c.exchange_part.new.self) start done some
          so_far.here so_far.there c.exchange_part.ensures.here;
      there = exchanged-further given held (kept_from start c.loop-done.row.items) (kept c.loop-done.self) (kept_from start c.exchange_part.new.row.items) start done some
          so_far.there so_far.here c.exchange_part.ensures.there;
      slots = λ p. c.exchange_part.ensures.slots p ∙ so_far.slots p;
      len = c.exchange_part.ensures.len ∙ so_far.len;
    }
