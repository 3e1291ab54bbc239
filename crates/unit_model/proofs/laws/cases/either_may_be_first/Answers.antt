use Rattle.unit_model.proofs.WorkedCases.{simple_first_is_lawful, head_first_is_lawful}
use Rattle.unit_model.proofs.laws.cases.either_may_be_first.Goals as goal

pub returns-clause-simple_first : goal.returns-clause-simple_first
returns-clause-simple_first c = simple_first_is_lawful

pub returns-clause-head_first : goal.returns-clause-head_first
returns-clause-head_first c = head_first_is_lawful
