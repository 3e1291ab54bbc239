use Rattle.ring_core.proofs.Scattering.{written_in_order}
use Rattle.ring_core.proofs.laws.scattering.writes_in_order.Goals as goal

pub returns : goal.returns
returns c = written_in_order
