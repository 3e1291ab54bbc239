use Rattle.device_model.proofs.Held.{held_outstanding}
use Rattle.device_model.proofs.laws.held_buffers_are_outstanding.Goals as goal

pub returns : goal.returns
returns c = held_outstanding
