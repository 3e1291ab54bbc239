use Rattle.std.proofs.Common.{sym, ◌∙◌, arith}
use Rattle.block_store.specs.Inner.Kept.{is_made_in}
use Rattle.block_store.proofs.Made.{made-next}
use Rattle.block_store.proofs.row.are_made.Goals as goal

pub loop-done-preserved : goal.loop-done-preserved
loop-done-preserved c = record {
  within = omega arith;
  made = made-next (is_made_in c.args.row.now) (is_made_in c.args.row.now) c.args.first c.loop-done.done c.in_page-done.result c.in_page-done.ensures.fits
      c.loop-done.invariant.made (λ p is. is) (sym c.is_made.ensures ∙ c.if-not-is_made.false);
}
