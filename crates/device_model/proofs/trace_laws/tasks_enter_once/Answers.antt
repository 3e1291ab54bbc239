use Rattle.device_model.specs.Entering.{AreEntered}
use Rattle.device_model.proofs.Traces.{in_run}
use Rattle.device_model.proofs.Entering.{are_entered}
use Rattle.device_model.proofs.trace_laws.tasks_enter_once.Goals as goal

pub returns : goal.returns
returns c = λ old trace w r.
    in_run (λ ds v. AreEntered old ds v) old (λ ds l. are_entered old ds r.opens l) trace w r.runs
