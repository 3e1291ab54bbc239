use Rattle.device_model.proofs.Happening.{applies_happens}
use Rattle.device_model.proofs.settling_laws.what_applies_happens.Goals as goal

pub returns : goal.returns
returns c = applies_happens
