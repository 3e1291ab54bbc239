use Rattle.unit_model.proofs.Keeping.{tasks_abort, tasks_reset}
use Rattle.unit_model.proofs.laws.keeping.an_abort_or_reset_marks.Goals as goal

pub returns-clause-abort : goal.returns-clause-abort
returns-clause-abort c = tasks_abort

pub returns-clause-reset : goal.returns-clause-reset
returns-clause-reset c = tasks_reset
