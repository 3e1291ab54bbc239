use Rattle.std.proofs.Common.{◌+◌, ◌∙◌, IsTrue, ap}
use Rattle.std.specs.Prelude.{is_some}
use Rattle.command_model.specs.UnmapList.{are_in_range}
use Rattle.block_commands.proofs.Descriptors.{left, are_in_range-more, is_named-more, is_near-more}
use Rattle.block_commands.proofs.Unmapping.{first, second, and-both, done_in_turn}
use Rattle.block_commands.proofs.readiness.to_unmap_extents.Goals as goal

pub loop-i-preserved : goal.loop-i-preserved
loop-i-preserved g c =
    let e = c.extent_at-extent in
    let more = are_in_range-more c.args.count c.loop-i.i c.args.taken.now e.result.lba e.result.count c.loop-i-test.true e.ensures.lba e.ensures.count (g.S.Store.size c.loop-i.store) in
    let named = is_named-more c.args.count c.loop-i.i c.args.taken.now e.result.lba e.result.count c.loop-i-test.true e.ensures.lba e.ensures.count in
    let close = is_near-more c.args.count c.loop-i.i c.args.taken.now e.result.lba e.result.count c.loop-i-test.true e.ensures.lba e.ensures.count in
    let rest = left c.args.count (c.loop-i.i + 1) c.args.taken.now in
    let both = rw more at c.loop-i.invariant.range in
    let in_range : IsTrue (are_in_range (g.S.Store.size c.loop-i.store) rest) = second _ _ both in
    let inside = first _ _ both in
    let here = c.to_write-here.ensures in
    let so_far = c.loop-i.invariant in
    record {
      storage = here.storage ∙ so_far.storage;
      same_size = here.size ∙ so_far.same_size;
      range = rw here.size in_range;
      blocks = λ b. here.blocks b ∙ so_far.blocks b;
      held = λ b was. here.held b (so_far.held b was);
      coming = λ b was. here.coming b (so_far.coming b was);
      keeps_room = λ b was. here.keeps_room b (so_far.keeps_room b was);
      whole = λ is. c.and-so_far.ensures.whole (so_far.whole is) (here.whole (ap is_some so_far.storage ∙ is));
      room = λ some b yes.
          done_in_turn _ _ _ _ _ (named b) (λ one. here.room (c.and-so_far.ensures.asked some).1 b (and-both _ _ inside one)) (here.keeps_room b)
          (so_far.room (c.and-so_far.ensures.asked some).0 b yes);
      near = λ all b yes.
          done_in_turn _ _ _ _ _ (close b) (λ one. here.near (c.and-so_far.ensures.ready all).1 b (and-both _ _ inside one)) (here.held b)
          (so_far.near (c.and-so_far.ensures.ready all).0 b yes);
      near_asked = λ some b yes.
          done_in_turn _ _ _ _ _ (close b) (λ one. here.near_asked (c.and-so_far.ensures.asked some).1 b (and-both _ _ inside one)) (here.coming b)
          (so_far.near_asked (c.and-so_far.ensures.asked some).0 b yes);
    }
