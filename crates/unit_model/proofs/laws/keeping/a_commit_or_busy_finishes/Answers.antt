use Rattle.unit_model.proofs.Keeping.{tasks_commit, tasks_busy}
use Rattle.unit_model.proofs.laws.keeping.a_commit_or_busy_finishes.Goals as goal

pub returns-clause-commit : goal.returns-clause-commit
returns-clause-commit c = tasks_commit

pub returns-clause-busy : goal.returns-clause-busy
returns-clause-busy c = tasks_busy
