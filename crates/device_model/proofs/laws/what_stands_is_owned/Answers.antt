use Rattle.device_model.proofs.Owning.{owned}
use Rattle.device_model.proofs.laws.what_stands_is_owned.Goals as goal

pub returns : goal.returns
returns c = λ old trace w r. owned old trace w r.opens r.runs
