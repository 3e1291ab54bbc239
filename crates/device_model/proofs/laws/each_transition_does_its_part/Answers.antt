use Rattle.device_model.proofs.Running.{writes}
use Rattle.device_model.proofs.Phasing.{unit_part, queue_part}
use Rattle.device_model.proofs.laws.each_transition_does_its_part.Goals as goal

pub returns-clause-unit : goal.returns-clause-unit
returns-clause-unit c = λ w d h. unit_part d w h

pub returns-clause-queue : goal.returns-clause-queue
returns-clause-queue c = λ w d h. queue_part d w h

pub returns-clause-memory : goal.returns-clause-memory
returns-clause-memory c = λ w d. writes d w
