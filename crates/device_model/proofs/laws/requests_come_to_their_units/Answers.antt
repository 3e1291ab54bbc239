use Rattle.device_model.proofs.Knowing.{named_there}
use Rattle.device_model.proofs.laws.requests_come_to_their_units.Goals as goal

pub returns : goal.returns
returns c = λ old trace w r. named_there old trace w r
