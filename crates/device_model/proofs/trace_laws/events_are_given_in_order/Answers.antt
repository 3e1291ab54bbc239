use Rattle.device_model.specs.EventBuffers.{AreEvents}
use Rattle.device_model.proofs.Traces.{in_run}
use Rattle.device_model.proofs.Events.{are_events}
use Rattle.device_model.proofs.trace_laws.events_are_given_in_order.Goals as goal

pub returns : goal.returns
returns c = λ old trace w r.
    in_run (λ ds v. AreEvents old ds v) old (λ ds l. are_events old ds r.opens l) trace w r.runs
