use Rattle.device_model.specs.Places.{only}
use Rattle.device_model.proofs.Logs.{are_logs}
use Rattle.device_model.proofs.trace_laws.logs_are_lawful.Goals as goal

pub returns : goal.returns
returns c = λ old trace w r.
    are_logs old trace w r (c.logs_are_numbered.ensures old trace w r)
    (record {
      stands = λ t. c.each_chain_stands_in_one_place.ensures.stands (only t) old trace w r;
      once = λ t. c.each_chain_stands_in_one_place.ensures.once t old trace w r;
    })
