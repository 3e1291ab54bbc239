use Rattle.std.proofs.Common.{◌≡◌, drop}
use Rattle.unit_model.specs.Tasks.{any_head_of_queue}
use Rattle.task_set.specs.Inner.Tasks.{entries_of}
use Rattle.task_set.proofs.walks.has_head_of_queue.Given as goal

abbrev pub invariant-loop-task : goal.invariant-loop-task
invariant-loop-task l = any_head_of_queue (entries_of (drop l.task-index l.tasks)) ≡ any_head_of_queue (entries_of l.tasks)
