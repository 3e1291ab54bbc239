use Rattle.unit_model.proofs.Fresh.{above_fresh}
use Rattle.unit_model.proofs.Clearing.{left_not_alive}
use Rattle.unit_model.proofs.laws.tasks.each_happens_once.Goals as goal

pub returns-clause-enters : goal.returns-clause-enters
returns-clause-enters c = λ o e past l. above_fresh o e.ticket past l.0 l.1.1

pub returns-clause-runs : goal.returns-clause-runs
returns-clause-runs c = λ o t r past l. l.1.1.is_undone

pub returns-clause-leaves : goal.returns-clause-leaves
returns-clause-leaves c = left_not_alive
