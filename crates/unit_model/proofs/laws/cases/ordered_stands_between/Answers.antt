use Rattle.unit_model.proofs.WorkedCases.{ordered_is_lawful}
use Rattle.unit_model.proofs.laws.cases.ordered_stands_between.Goals as goal

pub returns-clause-lawful : goal.returns-clause-lawful
returns-clause-lawful c = ordered_is_lawful
