use Rattle.unit_model.proofs.Blocking.{enabled_lasts}
use Rattle.unit_model.proofs.laws.tasks.enabled_stays_enabled.Goals as goal

pub returns : goal.returns
returns c = enabled_lasts
