use Rattle.std.proofs.Common.{◌≡◌, ◌++◌, drop, take, map}
use Rattle.unit_model.specs.Seen.{finished}
use Rattle.task_set.specs.Inner.Tasks.{moved}
use Rattle.task_set.proofs.walks.finish_all.Given as goal

abbrev pub invariant-loop-task : goal.invariant-loop-task
invariant-loop-task l = l.tasks ≡ map (moved (finished l.ticket l.well)) (take l.task-index l.fn.tasks) ++ drop l.task-index l.fn.tasks
