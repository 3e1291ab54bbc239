use Rattle.unit_model.proofs.Distinct.{alive_distinct}
use Rattle.unit_model.proofs.Few.{alive_few}
use Rattle.unit_model.proofs.laws.tasks.alive_tasks_are_distinct.Goals as goal

pub returns-clause-distinct : goal.returns-clause-distinct
returns-clause-distinct c = alive_distinct

pub returns-clause-few : goal.returns-clause-few
returns-clause-few c = alive_few
