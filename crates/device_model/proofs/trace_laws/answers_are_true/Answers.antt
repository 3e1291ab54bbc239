use Rattle.device_model.specs.Answering.{AreAnswered}
use Rattle.device_model.proofs.Traces.{in_run}
use Rattle.device_model.proofs.Answering.{are_answered}
use Rattle.device_model.proofs.trace_laws.answers_are_true.Goals as goal

pub returns : goal.returns
returns c = λ old trace w r.
    in_run (λ ds v. AreAnswered old ds v) old (λ ds l. are_answered old ds r.opens l) trace w r.runs
