use Rattle.device_model.specs.Ordering.{AreInOrder}
use Rattle.device_model.proofs.Traces.{in_run}
use Rattle.device_model.proofs.Ordering.{in_order}
use Rattle.device_model.proofs.trace_laws.commands_keep_their_order.Goals as goal

pub returns : goal.returns
returns c = λ old trace w r.
    in_run (λ ds v. AreInOrder ds) old (λ ds l. in_order old ds r.opens l) trace w r.runs
