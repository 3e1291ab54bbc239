use Rattle.device_model.proofs.Aside.{run_bare}
use Rattle.device_model.proofs.Waits.{bare_rest, bare_steps}
use Rattle.device_model.proofs.waiting_laws.a_device_in_memory_defers_nothing.Goals as goal

pub returns-clause-none : goal.returns-clause-none
returns-clause-none c = λ old trace w r none. let b = run_bare old trace w r.opens r.runs none in (b.1, b.2)

pub returns-clause-rest : goal.returns-clause-rest
returns-clause-rest c = bare_rest

pub returns-clause-steps : goal.returns-clause-steps
returns-clause-steps c = bare_steps
