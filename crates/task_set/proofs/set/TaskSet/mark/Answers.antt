use Rattle.std.proofs.Common.{refl}
use Rattle.unit_model.specs.Seen.{with_mark}
use Rattle.task_set.specs.Inner.Tasks.{moved}
use Rattle.task_set.proofs.Distinct.{distinct_changed, distinct_with_mark}
use Rattle.task_set.proofs.set.TaskSet.mark.Goals as goal

pub invariant_of-self : goal.invariant_of-self
invariant_of-self c =
    distinct_changed (moved (with_mark c.args.rule c.args.reason)) c.self.inside.tasks.items c.as_mut_slice.result.now c.mark_all.new.tasks _ refl c.as_mut_slice.ensures.value c.mark_all.ensures.tasks
    (distinct_with_mark c.args.rule c.args.reason c.self.inside.tasks.items c.self.invariant)
