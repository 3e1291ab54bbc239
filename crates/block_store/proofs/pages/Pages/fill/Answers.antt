use Rattle.std.proofs.Common.{◌∙◌, arith}
use Rattle.block_store.specs.Kept.{blocks_of}
use Rattle.block_store.proofs.Paging.{covered-next}
use Rattle.block_store.proofs.pages.Pages.fill.Goals as goal

pub loop-done-preserved : goal.loop-done-preserved
loop-done-preserved c = record {
  within = omega arith;
  blocks =
      covered-next (blocks_of c.args.self.now) (blocks_of c.loop-done.self) (blocks_of c.fill_part.new.self) (λ _. c.args.block.now)
      c.args.first c.loop-done.done c.in_row-some.result c.loop-done.invariant.blocks c.fill_part.ensures.blocks;
  made = λ p. c.fill_part.ensures.made p ∙ c.loop-done.invariant.made p;
}
