use Rattle.unit_model.proofs.Entering.{parked_enter}
use Rattle.unit_model.proofs.laws.handing.an_enter_parks_what_is_blocked.Goals as goal

pub returns : goal.returns
returns c = parked_enter
