use Rattle.device_model.specs.Lawful.{AreNumbered}
use Rattle.device_model.proofs.Staying.{run_keeps}
use Rattle.device_model.proofs.Numbering.{new_numbered, transition_numbers}
use Rattle.device_model.proofs.laws.logs_are_numbered.Goals as goal

pub returns : goal.returns
returns c = λ old trace w r. run_keeps AreNumbered transition_numbers old trace w (new_numbered old r.opens) r.runs
