use Rattle.ring_core.proofs.Scattering.{scatter_keeps_size}
use Rattle.ring_core.proofs.laws.scattering.scattering_keeps_the_size.Goals as goal

pub returns : goal.returns
returns c = scatter_keeps_size
