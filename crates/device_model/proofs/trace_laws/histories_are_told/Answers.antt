use Rattle.device_model.specs.Histories.{AreHistories}
use Rattle.device_model.proofs.Traces.{in_run}
use Rattle.device_model.proofs.Knowing.{are_histories}
use Rattle.device_model.proofs.trace_laws.histories_are_told.Goals as goal

pub returns : goal.returns
returns c = λ old trace w r.
    in_run (λ ds v. AreHistories old ds v) old (λ ds l. are_histories old ds r.opens l) trace w r.runs
