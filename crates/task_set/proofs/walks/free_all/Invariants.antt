use Rattle.std.proofs.Common.{◌≡◌, ◌++◌, ◌+◌, ◌≤◌, length, drop, take, map}
use Rattle.unit_model.specs.Tasks.{any_head_of_queue, any_ordered}
use Rattle.unit_model.specs.Seen.{freed}
use Rattle.task_set.specs.Inner.Tasks.{entries_of, moved, all_given}
use Rattle.task_set.proofs.walks.free_all.Given as goal

abbrev pub invariant-loop-i : goal.invariant-loop-i
invariant-loop-i l = record {
  head_of_queue : l.head_of_queue ≡ any_head_of_queue (entries_of l.fn.tasks);
  ordered : l.ordered ≡ any_ordered (entries_of (take l.i l.fn.tasks));
  tasks : l.tasks ≡ map (moved (freed (entries_of l.fn.tasks))) (take l.i l.fn.tasks) ++ drop l.i l.fn.tasks;
  out : l.out ≡ record l.fn.out { jobs = l.fn.out.jobs ++ all_given (freed (entries_of l.fn.tasks)) (take l.i l.fn.tasks) };
  room : length l.out.jobs ≤ length l.fn.out.jobs + l.i;
}
