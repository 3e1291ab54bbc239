use Rattle.device_model.specs.Happened.{NoneIsLost}
use Rattle.device_model.proofs.Traces.{in_run}
use Rattle.device_model.proofs.Knowing.{none_is_lost}
use Rattle.device_model.proofs.trace_laws.none_is_lost.Goals as goal

pub returns : goal.returns
returns c = λ old trace w r.
    in_run (λ ds v. NoneIsLost ds) old (λ ds l. none_is_lost old ds r.opens l) trace w r.runs
