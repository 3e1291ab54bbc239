use Rattle.device_model.proofs.Rests.{next_there, next_there_bare, next_there_told}
use Rattle.device_model.proofs.settling_laws.nothing_is_stuck.Goals as goal

pub returns-clause-next : goal.returns-clause-next
returns-clause-next c = next_there_bare

pub returns-clause-waits : goal.returns-clause-waits
returns-clause-waits c = next_there

pub returns-clause-function : goal.returns-clause-function
returns-clause-function c = next_there_told
