use Rattle.device_model.proofs.Applying.{applies, idles}
use Rattle.device_model.proofs.laws.what_happens_applies.Goals as goal

pub returns-clause-applies : goal.returns-clause-applies
returns-clause-applies c = λ w d h. applies d w h

pub returns-clause-idle : goal.returns-clause-idle
returns-clause-idle c = λ w e never. idles w e never
