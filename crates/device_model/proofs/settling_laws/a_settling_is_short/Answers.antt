use Rattle.device_model.proofs.Bounds.{settles_short}
use Rattle.device_model.proofs.settling_laws.a_settling_is_short.Goals as goal

pub returns : goal.returns
returns c = settles_short
