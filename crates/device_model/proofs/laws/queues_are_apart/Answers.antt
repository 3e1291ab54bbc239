use Rattle.device_model.proofs.Apart.{apart}
use Rattle.device_model.proofs.laws.queues_are_apart.Goals as goal

pub returns : goal.returns
returns c = λ w d h. apart d w h
