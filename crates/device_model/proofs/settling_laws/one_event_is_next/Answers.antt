use Rattle.device_model.proofs.Choosing.{own_next, next_applies, next_once, next_or_quiet}
use Rattle.device_model.proofs.settling_laws.one_event_is_next.Goals as goal

pub returns-clause-some : goal.returns-clause-some
returns-clause-some c = next_or_quiet

pub returns-clause-one : goal.returns-clause-one
returns-clause-one c = next_once

pub returns-clause-applies : goal.returns-clause-applies
returns-clause-applies c = next_applies

pub returns-clause-own : goal.returns-clause-own
returns-clause-own c = own_next
