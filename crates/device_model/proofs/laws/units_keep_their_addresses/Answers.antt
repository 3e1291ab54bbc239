use Rattle.device_model.proofs.Knowing.{addressed_there}
use Rattle.device_model.proofs.laws.units_keep_their_addresses.Goals as goal

pub returns : goal.returns
returns c = λ old trace w r. addressed_there old trace w r
