use Rattle.std.proofs.Common.{arith, length-take}
use Rattle.block_commands.proofs.verify.block_in.Goals as goal

pub slice_bounds-result-end : goal.slice_bounds-result-end
slice_bounds-result-end c = omega (arith, length-take 512 c.split_at.result.1.now, c.split_at.ensures.back_len)

pub returns-clause-len : goal.returns-clause-len
returns-clause-len c = omega (arith, length-take 512 c.split_at.result.1.now, c.split_at.ensures.back_len)
