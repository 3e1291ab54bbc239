use Rattle.device_model.proofs.Staying.{run_keeps, units_listed}
use Rattle.device_model.proofs.Floors.{AreOrdered, new_ordered, transition_orders, all_behind}
use Rattle.device_model.proofs.laws.tickets_rise.Goals as goal

pub returns : goal.returns
returns c = λ old trace w r.
    let ordered = run_keeps AreOrdered transition_orders old trace w (new_ordered old r.opens) r.runs in
    all_behind w (units_listed old trace w r.opens r.runs) ordered
