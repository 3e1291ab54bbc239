use Rattle.device_model.proofs.Waits.{none_left, none_left_of}
use Rattle.device_model.proofs.waiting_laws.nothing_is_left_where_none_waits.Goals as goal

pub returns-clause-rest : goal.returns-clause-rest
returns-clause-rest c = none_left

pub returns-clause-portion : goal.returns-clause-portion
returns-clause-portion c = none_left_of
