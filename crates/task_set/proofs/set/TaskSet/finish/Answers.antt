use Rattle.std.proofs.Common.{refl}
use Rattle.unit_model.specs.Seen.{finished}
use Rattle.task_set.specs.Inner.Tasks.{moved}
use Rattle.task_set.proofs.Distinct.{distinct_changed, distinct_finished}
use Rattle.task_set.proofs.set.TaskSet.finish.Goals as goal

pub invariant_of-self : goal.invariant_of-self
invariant_of-self c = distinct_changed (moved (finished c.args.ticket c.args.well)) c.self.inside.tasks.items c.as_mut_slice.result.now c.finish_all.new.tasks _ refl c.as_mut_slice.ensures.value c.finish_all.ensures (distinct_finished c.args.ticket c.args.well c.self.inside.tasks.items c.self.invariant)
