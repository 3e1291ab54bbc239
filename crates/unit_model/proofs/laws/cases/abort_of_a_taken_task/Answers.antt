use Rattle.block_store.proofs.Paging.{blocks_in-none}
use Rattle.unit_model.proofs.laws.cases.abort_of_a_taken_task.Goals as goal

pub returns-clause-unwritten : goal.returns-clause-unwritten
returns-clause-unwritten c = λ bytes. blocks_in-none 3
