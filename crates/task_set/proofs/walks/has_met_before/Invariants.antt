use Rattle.std.proofs.Common.{◌≡◌, drop}
use Rattle.unit_model.specs.Seen.{any_before}
use Rattle.task_set.specs.Inner.Tasks.{seen_of}
use Rattle.task_set.proofs.walks.has_met_before.Given as goal

abbrev pub invariant-loop-task : goal.invariant-loop-task
invariant-loop-task l = any_before l.place l.rule (seen_of (drop l.task-index l.tasks)) ≡ any_before l.place l.rule (seen_of l.tasks)
