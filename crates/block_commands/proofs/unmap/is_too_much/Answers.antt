use Rattle.std.proofs.Common.{arith}
use Rattle.block_commands.proofs.Descriptors.{blocks_named-more}
use Rattle.block_commands.proofs.unmap.is_too_much.Goals as goal

pub loop-i-preserved : goal.loop-i-preserved
loop-i-preserved c =
    let more = blocks_named-more c.args.count c.loop-i.i c.args.taken.now c.extent_at.result.lba c.extent_at.result.count c.loop-i-test.true c.extent_at.ensures.lba c.extent_at.ensures.count in
    record { sum = omega (arith, more); small = omega arith }
