use Rattle.std.proofs.Common.{◌∙◌, arith}
use Rattle.block_store.specs.Inner.Kept.{row_blocks}
use Rattle.block_store.proofs.Paging.{covered-next}
use Rattle.block_store.proofs.row.fill.Goals as goal

pub loop-done-preserved : goal.loop-done-preserved
loop-done-preserved c = record {
  within = omega arith;
  blocks =
      covered-next (row_blocks c.args.row.now.items) (row_blocks c.loop-done.row.items) (row_blocks c.fill_part.new.row.items) (λ _. c.args.block.now)
      c.args.first c.loop-done.done c.in_page-some.result c.loop-done.invariant.blocks c.fill_part.ensures.blocks;
  len = c.fill_part.ensures.len ∙ c.loop-done.invariant.len;
  made = λ p. c.fill_part.ensures.made p ∙ c.loop-done.invariant.made p;
}
