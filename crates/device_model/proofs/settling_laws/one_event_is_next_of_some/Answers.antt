use Rattle.device_model.proofs.Choosing.{next_applies_of, next_once_of, next_or_quiet_of}
use Rattle.device_model.proofs.Rests.{quiet_rests_of}
use Rattle.device_model.proofs.settling_laws.one_event_is_next_of_some.Goals as goal

pub returns-clause-some : goal.returns-clause-some
returns-clause-some c = next_or_quiet_of

pub returns-clause-one : goal.returns-clause-one
returns-clause-one c = next_once_of

pub returns-clause-applies : goal.returns-clause-applies
returns-clause-applies c = next_applies_of

pub returns-clause-rest : goal.returns-clause-rest
returns-clause-rest c = quiet_rests_of
