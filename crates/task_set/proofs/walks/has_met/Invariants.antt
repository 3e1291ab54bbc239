use Rattle.std.proofs.Common.{◌≡◌, drop}
use Rattle.unit_model.specs.Seen.{any_met}
use Rattle.task_set.specs.Inner.Tasks.{entries_of}
use Rattle.task_set.proofs.walks.has_met.Given as goal

abbrev pub invariant-loop-task : goal.invariant-loop-task
invariant-loop-task l = any_met l.rule (entries_of (drop l.task-index l.tasks)) ≡ any_met l.rule (entries_of l.tasks)
