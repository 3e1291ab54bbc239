use Rattle.std.proofs.Common.{◌∙◌}
use Rattle.block_commands.proofs.Zeros.{zeros_compared}
use Rattle.block_commands.proofs.provisioning.is_zero.Goals as goal

pub returns : goal.returns
returns c = c.eq.ensures ∙ zeros_compared c.args.block.now 512 c.requires
