use Rattle.device_model.proofs.Lowers.{lowers}
use Rattle.device_model.proofs.settling_laws.each_transition_is_paid_for.Goals as goal

pub returns : goal.returns
returns c = λ w d h. lowers d w h
