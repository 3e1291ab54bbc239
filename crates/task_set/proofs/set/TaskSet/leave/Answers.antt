use Rattle.std.proofs.Common.{◌≡◌, length, refl, ap, arith}
use Rattle.unit_model.specs.Seen.{freed}
use Rattle.task_set.specs.Inner.Tasks.{moved, entries_of, without}
use Rattle.task_set.proofs.Distinct.{distinct_changed, distinct_freed, no_more_without}
use Rattle.task_set.proofs.set.TaskSet.leave.Goals as goal

pub free_all-requires-clause-room : goal.free_all-requires-clause-room
free_all-requires-clause-room c =
    let rest : c.as_mut_slice.result.now ≡ without c.args.ticket c.args.self.now = cc in
    omega (arith, ap length rest, no_more_without c.args.ticket c.args.self.now)

pub invariant_of-self : goal.invariant_of-self
invariant_of-self c =
    let rest = c.as_mut_slice.result.now in
    distinct_changed (moved (freed (entries_of rest))) c.self.inside.tasks.items rest c.free_all.new.tasks _ refl c.as_mut_slice.ensures.value c.free_all.ensures.tasks
    (distinct_freed (entries_of rest) c.self.inside.tasks.items c.self.invariant)
