use Rattle.std.proofs.Common.{arith}
use Rattle.unit_model.specs.Seen.{finished}
use Rattle.task_set.specs.Inner.Tasks.{moved}
use Rattle.task_set.proofs.Lists.{mapped_more}
use Rattle.task_set.proofs.walks.finish_all.Goals as goal

pub loop-task-preserved : goal.loop-task-preserved
loop-task-preserved c =
    mapped_more (moved (finished c.args.ticket c.args.well)) c.args.tasks.now c.loop-task.tasks c.loop-task.task-index c.finish.new.self c.task-item.result (omega arith) c.loop-task.invariant c.finish.ensures
