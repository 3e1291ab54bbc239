use Rattle.std.proofs.Common.{refl}
use Rattle.task_mgmt.specs.Functions.{failing}
use Rattle.task_mgmt.proofs.Visits.{checked_left, checked_over, failed}
use Rattle.task_mgmt.proofs.laws.refused_functions_fail.Goals as goal

pub returns-clause-none_left : goal.returns-clause-none_left
returns-clause-none_left c f n = checked_left n (failing f)

pub returns-clause-over : goal.returns-clause-over
returns-clause-over c f n = checked_over n (failing f) refl

pub returns-clause-fails : goal.returns-clause-fails
returns-clause-fails c f n = failed n f
