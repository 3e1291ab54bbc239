use Rattle.std.proofs.Common.{◌≡◌, ◌+◌, ◌-◌, ◌*◌, ◌≤◌, ◌∙◌, arith}
use Rattle.block_store.specs.Blocks.{block_count, nth_block}
use Rattle.block_store.specs.Kept.{blocks_of}
use Rattle.block_store.proofs.Paging.{covered-next, chunk-covered}
use Rattle.block_store.proofs.pages.Pages.put.Goals as goal

pub loop-done-preserved : goal.loop-done-preserved
loop-done-preserved c =
    let bytes = c.args.bytes.now in
    let first = c.args.first in
    let done = c.loop-done.done in
    let some = c.in_row-some.result in
    let size : 512 * (done + some) - 512 * done ≡ 512 * some = omega arith in
    let fits : done + some ≤ block_count bytes = omega arith in
    record {
      within = omega arith;
      blocks =
          covered-next (blocks_of c.args.self.now) (blocks_of c.loop-done.self) (blocks_of c.put_part.new.self) (λ b. nth_block bytes (b - first))
          first done some c.loop-done.invariant.blocks
          (λ b. c.put_part.ensures.blocks b ∙ chunk-covered (blocks_of c.loop-done.self) bytes first done some (512 * (done + some) - 512 * done) size fits b);
      made = λ p. c.put_part.ensures.made p ∙ c.loop-done.invariant.made p;
    }
