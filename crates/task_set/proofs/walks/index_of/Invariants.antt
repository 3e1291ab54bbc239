use Rattle.std.proofs.Common.{◌≡◌, ◌++◌, drop, take}
use Rattle.task_set.specs.Inner.Tasks.{task_at, without}
use Rattle.task_set.proofs.walks.index_of.Given as goal

abbrev pub invariant-loop-i : goal.invariant-loop-i
invariant-loop-i l = record {
  found : task_at l.ticket (drop l.i l.tasks) ≡ task_at l.ticket l.tasks;
  rest : take l.i l.tasks ++ without l.ticket (drop l.i l.tasks) ≡ without l.ticket l.tasks;
}
