use Rattle.ring_core.proofs.Cases.{one_alone}
use Rattle.ring_core.proofs.laws.cases.one_descriptor_is_a_chain.Goals as goal

pub returns : goal.returns
returns c = one_alone
