use Rattle.std.proofs.Common.{◌∙◌, arith}
use Rattle.block_store.specs.Blocks.{zero_block}
use Rattle.block_store.specs.Inner.Kept.{row_blocks}
use Rattle.block_store.proofs.Paging.{covered-next}
use Rattle.block_store.proofs.row.clear.Goals as goal

pub loop-done-preserved : goal.loop-done-preserved
loop-done-preserved c = record {
  within = omega arith;
  blocks =
      covered-next (row_blocks c.args.row.now.items) (row_blocks c.loop-done.row.items) (row_blocks c.clear_part.new.row.items) (λ _. zero_block)
      c.args.first c.loop-done.done c.in_page-some.result c.loop-done.invariant.blocks c.clear_part.ensures.blocks;
  len = c.clear_part.ensures.len ∙ c.loop-done.invariant.len;
}
