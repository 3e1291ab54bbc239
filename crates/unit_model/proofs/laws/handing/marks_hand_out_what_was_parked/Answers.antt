use Rattle.unit_model.proofs.Parked.{parked_abort, parked_reset}
use Rattle.unit_model.proofs.laws.handing.marks_hand_out_what_was_parked.Goals as goal

pub returns-clause-abort : goal.returns-clause-abort
returns-clause-abort c = parked_abort

pub returns-clause-reset : goal.returns-clause-reset
returns-clause-reset c = parked_reset
