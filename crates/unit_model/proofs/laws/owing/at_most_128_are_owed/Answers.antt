use Rattle.unit_model.proofs.Owing.{alive_owed, found_owed}
use Rattle.unit_model.proofs.laws.owing.at_most_128_are_owed.Goals as goal

pub returns-clause-few : goal.returns-clause-few
returns-clause-few c = alive_owed

pub returns-clause-some : goal.returns-clause-some
returns-clause-some c = found_owed
