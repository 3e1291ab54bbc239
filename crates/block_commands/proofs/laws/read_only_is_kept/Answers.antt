use Rattle.block_commands.proofs.ReadOnly.{kept, others, refused}
use Rattle.block_commands.proofs.laws.read_only_is_kept.Goals as goal

pub returns-clause-refused : goal.returns-clause-refused
returns-clause-refused c = λ facts command bytes blocks told changes none. refused facts command bytes blocks told changes none

pub returns-clause-blocks : goal.returns-clause-blocks
returns-clause-blocks c = λ facts command bytes blocks b told. kept facts command bytes blocks b told

pub returns-clause-others : goal.returns-clause-others
returns-clause-others c = λ command bytes b old is. others command bytes b old is
