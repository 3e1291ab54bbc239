use Rattle.unit_model.proofs.Kept.{entries_tasks, length_tasks, seen_at_tasks, seen_is, others_tasks}
use Rattle.unit_model.proofs.laws.keeping.what_is_kept_is_alive.Goals as goal

pub returns-clause-entries : goal.returns-clause-entries
returns-clause-entries c = entries_tasks

pub returns-clause-number : goal.returns-clause-number
returns-clause-number c = length_tasks

pub returns-clause-found : goal.returns-clause-found
returns-clause-found c = seen_at_tasks

pub returns-clause-own : goal.returns-clause-own
returns-clause-own c = seen_is

pub returns-clause-others : goal.returns-clause-others
returns-clause-others c = others_tasks
