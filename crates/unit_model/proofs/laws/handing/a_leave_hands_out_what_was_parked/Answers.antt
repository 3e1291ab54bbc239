use Rattle.unit_model.proofs.Leaving.{leaving}
use Rattle.unit_model.proofs.laws.handing.a_leave_hands_out_what_was_parked.Goals as goal

pub returns : goal.returns
returns c = leaving
