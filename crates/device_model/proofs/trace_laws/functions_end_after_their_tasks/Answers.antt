use Rattle.device_model.specs.Functions.{AreOver}
use Rattle.device_model.proofs.Traces.{in_run}
use Rattle.device_model.proofs.Ending.{are_over}
use Rattle.device_model.proofs.trace_laws.functions_end_after_their_tasks.Goals as goal

pub returns : goal.returns
returns c = λ old trace w r.
    in_run (λ ds v. AreOver old ds) old (λ ds l. are_over old ds r.opens l) trace w r.runs
