use Rattle.unit_model.proofs.Blocking.{enabled_entering}
use Rattle.unit_model.proofs.laws.tasks.unblocked_is_enabled_at_once.Goals as goal

pub returns : goal.returns
returns c = enabled_entering
