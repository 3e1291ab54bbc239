use Rattle.std.proofs.Common.{◌≡◌, ◌+◌, ◌%◌, ◌∙◌, arith}
use Rattle.block_store.proofs.Paging.{covered-next}
use Rattle.backed_store.specs.Stores.{contents}
use Rattle.backed_store.proofs.Kept.{host-then}
use Rattle.backed_store.proofs.backed.BackedStore.fill.Goals as goal

pub loop-done-preserved : goal.loop-done-preserved
loop-done-preserved c =
    let here = c.fill_part.ensures in
    let so_far = c.loop-done.invariant in
    record {
      within = omega arith;
      border = λ later less.
          let full : (c.args.first + c.loop-done.done) % 8 + c.in_page-some.result ≡ 8 = c.in_page-some.ensures.full (omega (arith, less)) in
          omega (arith, full);
      blocks =
          covered-next (contents c.args.self.now) (contents c.loop-done.self) (contents c.fill_part.new.self) (λ _. c.args.block.now)
          c.args.first c.loop-done.done c.in_page-some.result so_far.blocks here.blocks;
      held = λ b was. here.held b (so_far.held b was);
      keeps_room = λ b was. here.keeps_room b (so_far.keeps_room b was);
      host = host-then so_far.host here.host;
      size = here.size ∙ so_far.size;
    }
