use Rattle.ring_core.proofs.Cases.{three_linked}
use Rattle.ring_core.proofs.laws.cases.three_linked_descriptors_are_a_chain.Goals as goal

pub returns : goal.returns
returns c = three_linked
