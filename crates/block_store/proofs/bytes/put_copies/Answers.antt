use Rattle.block_store.specs.Blocks.{nth_block}
use Rattle.block_store.proofs.Written.{filled-next}
use Rattle.block_store.proofs.bytes.put_copies.Goals as goal

pub loop-i-preserved : goal.loop-i-preserved
loop-i-preserved c =
    filled-next (nth_block c.args.held.now) (nth_block c.loop-i.held) (nth_block c.put_blocks.new.held) c.args.first c.loop-i.i c.args.block.now
    c.told-block c.loop-i.invariant c.put_blocks.ensures
