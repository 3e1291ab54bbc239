use Rattle.std.proofs.Common.{arith}
use Rattle.std.proofs.lemmas.List.{take_all}
use Rattle.unit_model.proofs.WorkedCases.{committed_is_lawful}
use Rattle.unit_model.proofs.laws.cases.abort_of_a_committed_task.Goals as goal

pub returns-clause-lawful : goal.returns-clause-lawful
returns-clause-lawful c = committed_is_lawful

pub returns-clause-written : goal.returns-clause-written
returns-clause-written c = λ bytes whole. take_all 512 bytes (omega (arith, whole))
