use Rattle.std.proofs.Common.{◌≡◌, drop}
use Rattle.request_intake.specs.declared.attribute.TaskAttribute.TheVariants.{Simple}
use Rattle.unit_model.specs.Tasks.{blocks}
use Rattle.task_set.specs.Inner.Tasks.{entries_of}
use Rattle.task_set.proofs.blocking.has_other_than_simple.Given as goal

abbrev pub invariant-loop-task : goal.invariant-loop-task
invariant-loop-task l =
    blocks Simple (entries_of (drop l.task-index l.tasks)) (entries_of (drop l.task-index l.tasks)) ≡ blocks Simple (entries_of l.tasks) (entries_of l.tasks)
