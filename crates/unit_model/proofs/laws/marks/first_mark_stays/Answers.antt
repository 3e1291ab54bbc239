use Rattle.unit_model.proofs.Marking.{mark_lasts}
use Rattle.unit_model.proofs.laws.marks.first_mark_stays.Goals as goal

pub returns : goal.returns
returns c = mark_lasts
