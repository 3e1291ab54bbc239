use Rattle.unit_model.proofs.Receipts.{unreached}
use Rattle.unit_model.proofs.laws.receipts.receipts_of_no_commit_are_not.Goals as goal

pub returns : goal.returns
returns c = unreached
