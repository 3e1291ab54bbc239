use Rattle.unit_model.proofs.Keeping.{tasks_enter, tasks_full, tasks_resize}
use Rattle.unit_model.proofs.laws.keeping.an_enter_appends.Goals as goal

pub returns-clause-enter : goal.returns-clause-enter
returns-clause-enter c = tasks_enter

pub returns-clause-full : goal.returns-clause-full
returns-clause-full c = tasks_full

pub returns-clause-resize : goal.returns-clause-resize
returns-clause-resize c = tasks_resize
