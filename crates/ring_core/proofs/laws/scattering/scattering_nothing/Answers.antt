use Rattle.ring_core.proofs.Scattering.{no_writes}
use Rattle.ring_core.proofs.laws.scattering.scattering_nothing.Goals as goal

pub returns : goal.returns
returns c = no_writes
