use Rattle.std.proofs.Common.{◌<◌, length, arith}
use Rattle.unit_model.specs.Seen.{with_mark}
use Rattle.task_set.specs.Inner.Tasks.{moved}
use Rattle.task_set.proofs.Lists.{mapped_at, mapped_more, given_out}
use Rattle.task_set.proofs.walks.mark_all.Goals as goal

pub loop-task-preserved : goal.loop-task-preserved
loop-task-preserved c =
    let d = c.task-item.result in
    let i = c.loop-task.task-index in
    let old = c.args.tasks.now in
    let now = c.loop-task.tasks in
    let f = with_mark c.args.rule c.args.reason in
    let lt : i < length old = omega arith in
    record {
      tasks = mapped_more (moved f) old now i c.mark_by.new.self d lt c.loop-task.invariant.tasks c.mark_by.ensures.task;
      out = given_out f old i d _ c.args.out.now c.loop-task.out c.mark_by.new.out lt (mapped_at (moved f) old now i d lt c.loop-task.invariant.tasks) c.loop-task.invariant.out c.mark_by.ensures.out;
      room = omega arith;
    }
