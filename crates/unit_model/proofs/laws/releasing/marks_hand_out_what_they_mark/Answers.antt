use Rattle.unit_model.proofs.Releasing.{released_by_abort, released_by_reset}
use Rattle.unit_model.proofs.laws.releasing.marks_hand_out_what_they_mark.Goals as goal

pub returns-clause-abort : goal.returns-clause-abort
returns-clause-abort c = released_by_abort

pub returns-clause-reset : goal.returns-clause-reset
returns-clause-reset c = released_by_reset
