use Rattle.std.proofs.Common.{refl}
use Rattle.command_model.specs.Capacity.{capacity_10, capacity_16}
use Rattle.block_commands.proofs.laws.large_capacities_are_told.Goals as goal

pub returns-clause-below : goal.returns-clause-below
unfolding capacity_10
returns-clause-below c = λ facts bytes blocks. refl

pub returns-clause-largest : goal.returns-clause-largest
unfolding capacity_10
returns-clause-largest c = λ facts bytes blocks. refl

pub returns-clause-larger : goal.returns-clause-larger
unfolding capacity_10
returns-clause-larger c = λ facts bytes blocks. refl

pub returns-clause-sixteen : goal.returns-clause-sixteen
unfolding capacity_16
returns-clause-sixteen c = λ facts bytes blocks. refl
