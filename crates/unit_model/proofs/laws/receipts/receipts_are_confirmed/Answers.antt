use Rattle.std.proofs.Common.{Some, None}
use Rattle.unit_model.proofs.Receipts.{confirmed, itself_agrees}
use Rattle.unit_model.proofs.laws.receipts.receipts_are_confirmed.Goals as goal

pub returns-clause-kept : goal.returns-clause-kept
returns-clause-kept c = λ o keeps t r later past. confirmed o keeps t r later past (Some r) (itself_agrees _ r)

pub returns-clause-not_kept : goal.returns-clause-not_kept
returns-clause-not_kept c = λ o keeps t r later past. confirmed o keeps t r later past None tt
