use Rattle.unit_model.proofs.WorkedCases.{read_whole}
use Rattle.unit_model.proofs.laws.cases.what_was_written_is_read.Goals as goal

pub returns : goal.returns
returns c = read_whole
