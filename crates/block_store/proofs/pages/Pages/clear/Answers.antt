use Rattle.std.proofs.Common.{arith}
use Rattle.block_store.specs.Blocks.{zero_block}
use Rattle.block_store.specs.Kept.{blocks_of}
use Rattle.block_store.proofs.Paging.{covered-next}
use Rattle.block_store.proofs.pages.Pages.clear.Goals as goal

pub loop-done-preserved : goal.loop-done-preserved
loop-done-preserved c = record {
  within = omega arith;
  blocks =
      covered-next (blocks_of c.args.self.now) (blocks_of c.loop-done.self) (blocks_of c.clear_part.new.self) (λ _. zero_block)
      c.args.first c.loop-done.done c.in_row-some.result c.loop-done.invariant.blocks c.clear_part.ensures;
}
