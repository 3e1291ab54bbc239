use Rattle.device_model.specs.Lawful.{AreUnits}
use Rattle.device_model.proofs.Staying.{run_keeps}
use Rattle.device_model.proofs.Histories.{new_units, transition_units}
use Rattle.device_model.proofs.laws.histories_are_lawful.Goals as goal

pub returns : goal.returns
returns c = λ old trace w r. run_keeps AreUnits transition_units old trace w (new_units old r.opens) r.runs
