use Rattle.device_model.proofs.Storing.{command_kept, conclusion_kept}
use Rattle.device_model.proofs.storage_laws.a_command_is_answered_once_it_is_kept.Goals as goal

pub returns-clause-commit : goal.returns-clause-commit
returns-clause-commit c = command_kept

pub returns-clause-conclude : goal.returns-clause-conclude
returns-clause-conclude c = conclusion_kept
