use Rattle.block_store.proofs.Paging.{blocks_in-none}
use Rattle.unit_model.proofs.WorkedCases.{parked_is_lawful}
use Rattle.unit_model.proofs.laws.cases.abort_of_a_parked_task.Goals as goal

pub returns-clause-lawful : goal.returns-clause-lawful
returns-clause-lawful c = parked_is_lawful

pub returns-clause-unwritten : goal.returns-clause-unwritten
returns-clause-unwritten c = λ bytes. blocks_in-none 3
