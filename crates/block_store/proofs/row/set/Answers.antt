use Rattle.std.proofs.Common.{◌≡◌, ◌+◌, ◌-◌, ◌*◌, ◌≤◌, ◌∙◌, arith}
use Rattle.block_store.specs.Blocks.{block_count, nth_block}
use Rattle.block_store.specs.Inner.Kept.{row_blocks}
use Rattle.block_store.proofs.Paging.{covered-next, chunk-covered}
use Rattle.block_store.proofs.row.set.Goals as goal

pub loop-done-preserved : goal.loop-done-preserved
loop-done-preserved c =
    let bytes = c.args.bytes.now in
    let first = c.args.first in
    let done = c.loop-done.done in
    let some = c.in_page-some.result in
    let size : 512 * (done + some) - 512 * done ≡ 512 * some = omega arith in
    let fits : done + some ≤ block_count bytes = omega arith in
    record {
      within = omega arith;
      blocks =
          covered-next (row_blocks c.args.row.now.items) (row_blocks c.loop-done.row.items) (row_blocks c.set_part.new.row.items) (λ b. nth_block bytes (b - first))
          first done some c.loop-done.invariant.blocks
          (λ b. c.in_ok-set_part.ensures b ∙ chunk-covered (row_blocks c.loop-done.row.items) bytes first done some (512 * (done + some) - 512 * done) size fits b);
    }
