use Rattle.unit_model.proofs.Keeping.{tasks_leave}
use Rattle.unit_model.proofs.laws.keeping.a_leave_frees.Goals as goal

pub returns : goal.returns
returns c = tasks_leave
