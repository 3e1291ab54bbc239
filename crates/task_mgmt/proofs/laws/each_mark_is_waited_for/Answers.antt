use Rattle.task_mgmt.proofs.Visits.{checked_over}
use Rattle.task_mgmt.proofs.laws.each_mark_is_waited_for.Goals as goal

pub returns : goal.returns
returns c f n e = checked_over n f e
