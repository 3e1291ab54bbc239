use Rattle.device_model.proofs.Joining.{joins}
use Rattle.device_model.proofs.laws.parts_join.Goals as goal

pub returns : goal.returns
returns c = λ w d s u q. joins d w s u q
