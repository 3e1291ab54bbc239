use Rattle.std.proofs.Common.{◌/◌, ◌∙◌, arith}
use Rattle.block_store.specs.Inner.Kept.{is_made}
use Rattle.block_store.proofs.Made.{within-further}
use Rattle.block_store.proofs.pages.Pages.make_all.Goals as goal

pub loop-done-preserved : goal.loop-done-preserved
loop-done-preserved c =
    let first = c.args.first in
    let done = c.loop-done.done in
    let some = c.in_row-some.result in
    let ensured = c.in_ok-make_part.ensures in
    record {
      within = omega arith;
      made = within-further (λ b. is_made c.loop-done.self (b / 8)) (λ b. is_made c.make_part.new.self (b / 8)) first done some
          c.loop-done.invariant.made (λ b. ensured.others (b / 8)) ensured.made;
      blocks = λ b. c.in_ok-make_part.ensures.blocks b ∙ c.loop-done.invariant.blocks b;
    }
