use Rattle.std.proofs.Common.{◌≡◌, ◌+◌, ◌-◌, ◌*◌, ◌%◌, ◌≤◌, ◌∙◌, arith}
use Rattle.block_store.specs.Blocks.{block_count, nth_block}
use Rattle.block_store.proofs.Paging.{covered-next, chunk-covered}
use Rattle.backed_store.specs.Stores.{contents}
use Rattle.backed_store.proofs.Kept.{host-then}
use Rattle.backed_store.proofs.backed.BackedStore.put.Goals as goal

pub loop-done-preserved : goal.loop-done-preserved
loop-done-preserved c =
    let bytes = c.args.bytes.now in
    let first = c.args.first in
    let done = c.loop-done.done in
    let some = c.in_page-some.result in
    let here = c.put_part.ensures in
    let so_far = c.loop-done.invariant in
    let size : 512 * (done + some) - 512 * done ≡ 512 * some = omega arith in
    let fits : done + some ≤ block_count bytes = omega arith in
    record {
      within = omega arith;
      border = λ later less.
          let full : (c.args.first + c.loop-done.done) % 8 + c.in_page-some.result ≡ 8 = c.in_page-some.ensures.full (omega (arith, less)) in
          omega (arith, full);
      blocks =
          covered-next (contents c.args.self.now) (contents c.loop-done.self) (contents c.put_part.new.self) (λ b. nth_block bytes (b - first))
          first done some so_far.blocks
          (λ b. here.blocks b ∙ chunk-covered (contents c.loop-done.self) bytes first done some (512 * (done + some) - 512 * done) size fits b);
      held = λ b was. here.held b (so_far.held b was);
      keeps_room = λ b was. here.keeps_room b (so_far.keeps_room b was);
      host = host-then so_far.host here.host;
      size = here.size ∙ so_far.size;
    }
