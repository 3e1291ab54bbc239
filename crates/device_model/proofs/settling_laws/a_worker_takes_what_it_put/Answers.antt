use Rattle.device_model.proofs.AtOnce.{puts_it, takes_it, has_it}
use Rattle.device_model.proofs.settling_laws.a_worker_takes_what_it_put.Goals as goal

pub returns-clause-puts : goal.returns-clause-puts
returns-clause-puts c = λ w k x seat empty room. puts_it w k x seat empty room

pub returns-clause-takes : goal.returns-clause-takes
returns-clause-takes c = λ w k x seat empty worker. takes_it w k x seat empty worker

pub returns-clause-leaves : goal.returns-clause-leaves
returns-clause-leaves c = λ w k x seat empty. has_it w k x seat empty
