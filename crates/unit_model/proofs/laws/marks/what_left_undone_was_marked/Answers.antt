use Rattle.unit_model.proofs.Marking.{left_marked}
use Rattle.unit_model.proofs.laws.marks.what_left_undone_was_marked.Goals as goal

pub returns : goal.returns
returns c = left_marked
