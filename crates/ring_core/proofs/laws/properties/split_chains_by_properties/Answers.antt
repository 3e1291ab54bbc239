use Rattle.ring_core.proofs.ChainProperties.{split_has, split_is}
use Rattle.ring_core.proofs.laws.properties.split_chains_by_properties.Goals as goal

pub returns : goal.returns
returns c = record { only = split_has; all = split_is }
