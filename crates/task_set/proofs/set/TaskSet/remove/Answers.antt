use Rattle.task_set.proofs.Distinct.{distinct_removed}
use Rattle.task_set.proofs.set.TaskSet.remove.Goals as goal

pub invariant_of-self : goal.invariant_of-self
invariant_of-self c =
    distinct_removed c.args.ticket c.self.inside.tasks.items c.as_slice.result.now c.remove.new.self.items c.in-Some.index c.remove.ensures.items c.as_slice.ensures.value c.in-Some.ensures.rest c.self.invariant
