use Rattle.device_model.proofs.Running.{run_told, run_world, run_leads}
use Rattle.device_model.proofs.laws.a_trace_is_that_of_its_transitions.Goals as goal

pub returns-clause-told : goal.returns-clause-told
returns-clause-told c = λ old trace w r. run_told old trace w r.runs

pub returns-clause-world : goal.returns-clause-world
returns-clause-world c = λ old trace w r. run_world old trace w r.runs

pub returns-clause-leads : goal.returns-clause-leads
returns-clause-leads c = λ old trace w r. run_leads old trace w r.runs
