use Rattle.block_commands.proofs.Unmapping.{unmapped-in_range}
use Rattle.block_commands.proofs.laws.unmapped_whole.Goals as goal

pub returns-clause-range : goal.returns-clause-range
returns-clause-range c = λ facts n bytes blocks ended. unmapped-in_range facts n bytes blocks ended
