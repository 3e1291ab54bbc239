use Rattle.std.proofs.Common.{◌+◌, ◌∙◌, IsTrue}
use Rattle.block_store.specs.Blocks.{zero_block}
use Rattle.command_model.specs.UnmapList.{are_in_range}
use Rattle.block_commands.proofs.Descriptors.{left, are_in_range-more, is_named-more, is_near-more}
use Rattle.block_commands.proofs.Unmapping.{second, zeroed_in_turn, or-first, or-second}
use Rattle.block_commands.proofs.unmap.zero_extents.Goals as goal

pub loop-i-preserved : goal.loop-i-preserved
loop-i-preserved g c =
    let e = c.extent_at-extent in
    let more = are_in_range-more c.args.count c.loop-i.i c.args.taken.now e.result.lba e.result.count c.loop-i-test.true e.ensures.lba e.ensures.count (g.S.Store.size c.loop-i.store) in
    let named = is_named-more c.args.count c.loop-i.i c.args.taken.now e.result.lba e.result.count c.loop-i-test.true e.ensures.lba e.ensures.count in
    let close = is_near-more c.args.count c.loop-i.i c.args.taken.now e.result.lba e.result.count c.loop-i-test.true e.ensures.lba e.ensures.count in
    let rest = left c.args.count (c.loop-i.i + 1) c.args.taken.now in
    let in_range : IsTrue (are_in_range (g.S.Store.size c.loop-i.store) rest) = second _ _ (rw more at c.loop-i.invariant.range) in
    record {
      storage = c.zero_blocks.ensures.storage ∙ c.loop-i.invariant.storage;
      same_size = c.zero_blocks.ensures.size ∙ c.loop-i.invariant.same_size;
      range = rw c.zero_blocks.ensures.size in_range;
      zeroed_by = λ b. rw (c.zero_blocks.ensures.blocks b) (zeroed_in_turn _ _ _ _ zero_block _ (named b) (c.loop-i.invariant.zeroed_by b));
      room = λ b later. c.zero_blocks.ensures.keeps_room b (c.loop-i.invariant.room b (rw (named b) (or-second _ _ later)));
      near = λ b later. c.zero_blocks.ensures.held b (c.loop-i.invariant.near b (rw (close b) (or-second _ _ later)));
    }

pub zero_blocks-requires-clause-room : goal.zero_blocks-requires-clause-room
zero_blocks-requires-clause-room g c =
    let e = c.extent_at-extent in
    let named = is_named-more c.args.count c.loop-i.i c.args.taken.now e.result.lba e.result.count c.loop-i-test.true e.ensures.lba e.ensures.count in
    λ b within. c.loop-i.invariant.room b (rw (named b) (or-first _ _ within))

pub zero_blocks-requires-clause-beside : goal.zero_blocks-requires-clause-beside
zero_blocks-requires-clause-beside g c =
    let e = c.extent_at-extent in
    let close = is_near-more c.args.count c.loop-i.i c.args.taken.now e.result.lba e.result.count c.loop-i-test.true e.ensures.lba e.ensures.count in
    λ b beside. c.loop-i.invariant.near b (rw (close b) (or-first _ _ beside))
