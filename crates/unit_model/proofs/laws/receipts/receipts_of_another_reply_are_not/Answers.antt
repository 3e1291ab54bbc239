use Rattle.std.proofs.Common.{Some, false}
use Rattle.unit_model.proofs.Receipts.{confirmed, other_reply, later_reply, longer_reply}
use Rattle.unit_model.proofs.laws.receipts.receipts_of_another_reply_are_not.Goals as goal

pub returns-clause-compared : goal.returns-clause-compared
returns-clause-compared c = other_reply

pub returns-clause-not_compared : goal.returns-clause-not_compared
returns-clause-not_compared c = λ o t r other later past. confirmed o false t r later past (Some other) tt

pub returns-clause-later_not_compared : goal.returns-clause-later_not_compared
returns-clause-later_not_compared c = later_reply

pub returns-clause-longer_not_compared : goal.returns-clause-longer_not_compared
returns-clause-longer_not_compared c = longer_reply
