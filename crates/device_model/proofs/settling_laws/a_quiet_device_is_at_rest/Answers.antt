use Rattle.device_model.proofs.Rests.{quiet_rests}
use Rattle.device_model.proofs.settling_laws.a_quiet_device_is_at_rest.Goals as goal

pub returns : goal.returns
returns c = quiet_rests
