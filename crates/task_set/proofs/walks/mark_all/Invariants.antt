use Rattle.std.proofs.Common.{◌≡◌, ◌++◌, ◌+◌, ◌≤◌, length, drop, take, map}
use Rattle.unit_model.specs.Seen.{with_mark}
use Rattle.task_set.specs.Inner.Tasks.{moved, all_given}
use Rattle.task_set.proofs.walks.mark_all.Given as goal

abbrev pub invariant-loop-task : goal.invariant-loop-task
invariant-loop-task l = record {
  tasks : l.tasks ≡ map (moved (with_mark l.rule l.reason)) (take l.task-index l.fn.tasks) ++ drop l.task-index l.fn.tasks;
  out : l.out ≡ record l.fn.out { jobs = l.fn.out.jobs ++ all_given (with_mark l.rule l.reason) (take l.task-index l.fn.tasks) };
  room : length l.out.jobs ≤ length l.fn.out.jobs + l.task-index;
}
