use Rattle.ring_core.proofs.ChainProperties.{packed_has, packed_is}
use Rattle.ring_core.proofs.laws.properties.packed_chains_by_properties.Goals as goal

pub returns : goal.returns
returns c = record { only = packed_has; all = packed_is }
