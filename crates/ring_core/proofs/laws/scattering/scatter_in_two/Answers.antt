use Rattle.ring_core.proofs.Scattering.{scatter_in_two_lem}
use Rattle.ring_core.proofs.laws.scattering.scatter_in_two.Goals as goal

pub returns : goal.returns
returns c = scatter_in_two_lem
