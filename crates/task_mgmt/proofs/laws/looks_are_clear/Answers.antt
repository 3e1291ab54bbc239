use Rattle.task_mgmt.proofs.Visits.{look_clear}
use Rattle.task_mgmt.proofs.laws.looks_are_clear.Goals as goal

pub returns : goal.returns
returns c f h = look_clear h
