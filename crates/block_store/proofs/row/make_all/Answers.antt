use Rattle.std.proofs.Common.{◌∙◌, arith}
use Rattle.block_store.specs.Inner.Kept.{is_made_in}
use Rattle.block_store.proofs.Made.{made-next}
use Rattle.block_store.proofs.row.make_all.Goals as goal

pub loop-done-preserved : goal.loop-done-preserved
loop-done-preserved c =
    let first = c.args.first in
    let done = c.loop-done.done in
    let some = c.in_page-done.result in
    let ensured = c.in_ok-make.ensures in
    record {
      within = omega arith;
      made = made-next (is_made_in c.loop-done.row.items) (is_made_in c.make.new.row.items) first done some c.in_page-done.ensures.fits
          c.loop-done.invariant.made ensured.others ensured.made;
      others = λ p was. ensured.others p (c.loop-done.invariant.others p was);
      blocks = λ b. ensured.blocks b ∙ c.loop-done.invariant.blocks b;
      grows = omega (arith, ensured.grows, c.loop-done.invariant.grows);
    }
