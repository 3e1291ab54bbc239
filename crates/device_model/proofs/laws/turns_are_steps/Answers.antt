use Rattle.device_model.proofs.Turning.{step_of}
use Rattle.device_model.proofs.laws.turns_are_steps.Goals as goal

pub returns : goal.returns
returns c = step_of
