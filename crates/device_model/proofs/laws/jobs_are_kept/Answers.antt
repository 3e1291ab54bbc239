use Rattle.device_model.proofs.Jobs.{kept}
use Rattle.device_model.proofs.laws.jobs_are_kept.Goals as goal

pub returns : goal.returns
returns c = λ p w d h. kept p d w h
