use Rattle.device_model.proofs.Waking.{wakes}
use Rattle.device_model.proofs.settling_laws.only_some_events_wake.Goals as goal

pub returns : goal.returns
returns c = wakes
