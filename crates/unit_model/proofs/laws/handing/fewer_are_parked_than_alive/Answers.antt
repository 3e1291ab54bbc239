use Rattle.unit_model.proofs.Fewer.{parked_fewer}
use Rattle.unit_model.proofs.laws.handing.fewer_are_parked_than_alive.Goals as goal

pub returns : goal.returns
returns c = parked_fewer
