use Rattle.std.proofs.Common.{◌≡◌, ◌++◌, ◌∷◌, [], true, false, Some, refl, sym, ◌∙◌, ap, arith}
use Rattle.std.proofs.lemmas.Bool.Decides.{nat_tests}
use Rattle.unit_model.specs.Tasks.{is_blocked}
use Rattle.task_set.specs.Tasks.{PlainTask}
use Rattle.task_set.specs.Inner.Tasks.{entries_of, entering}
use Rattle.task_set.proofs.Distinct.{distinct_entered}
use Rattle.task_set.proofs.Entering.{blocked_by, entering_by, given_back_by}
use Rattle.task_set.proofs.set.TaskSet.enter.Goals as goal

pub invariant_of-self : goal.invariant_of-self
invariant_of-self c =
    distinct_entered c.args.arrival.entry c.waiting.result c.args.self.now c.self.inside.tasks.items c.push.new.self.items c.requires.fresh (ap (λ (t : PlainTask). t.seen.entry) c.waiting.ensures)
    (cc) c.push.ensures.items c.self.invariant

pub returns-then-block_next-clause-ok : goal.returns-then-block_next-clause-ok
returns-then-block_next-clause-ok c =
    let blocked : true ≡ is_blocked c.args.arrival.entry (entries_of c.args.self.now ++ c.args.arrival.entry ∷ []) =
    sym c.if-block_next.true ∙ blocked_by c.args.arrival c.request.result.now c.attribute.result (entries_of c.args.self.now) c.block_next.result c.requires.fresh c.request.ensures c.attribute.ensures cc in
    let task : c.waiting.result ≡ entering c.args.place c.args.self.now c.args.arrival =
    entering_by c.args.place c.args.self.now c.args.arrival true c.waiting.result blocked c.waiting.ensures in
    (grind (arith, nat_tests), cc)

pub returns-then-block_next-clause-job : goal.returns-then-block_next-clause-job
returns-then-block_next-clause-job c =
    let blocked : true ≡ is_blocked c.args.arrival.entry (entries_of c.args.self.now ++ c.args.arrival.entry ∷ []) =
    sym c.if-block_next.true ∙ blocked_by c.args.arrival c.request.result.now c.attribute.result (entries_of c.args.self.now) c.block_next.result c.requires.fresh c.request.ensures c.attribute.ensures cc in
    given_back_by c.args.self.now c.args.arrival true _ blocked refl

pub invariant_of-self-2 : goal.invariant_of-self-2
invariant_of-self-2 c =
    distinct_entered c.args.arrival.entry c.enabled-task.result.0 c.args.self.now c.self.inside.tasks.items c.push-2.new.self.items c.requires.fresh
    (ap (λ (t : PlainTask). t.seen.entry) c.enabled-task.ensures.task) (cc) c.push-2.ensures.items c.self.invariant

pub returns-clause-ok : goal.returns-clause-ok
returns-clause-ok c =
    let blocked : false ≡ is_blocked c.args.arrival.entry (entries_of c.args.self.now ++ c.args.arrival.entry ∷ []) =
    sym c.if-block_next.false ∙ blocked_by c.args.arrival c.request.result.now c.attribute.result (entries_of c.args.self.now) c.block_next.result c.requires.fresh c.request.ensures c.attribute.ensures cc in
    let task : c.enabled-task.result.0 ≡ entering c.args.place c.args.self.now c.args.arrival =
    entering_by c.args.place c.args.self.now c.args.arrival false c.enabled-task.result.0 blocked c.enabled-task.ensures.task in
    (grind (arith, nat_tests), cc)

pub returns-clause-job : goal.returns-clause-job
returns-clause-job c =
    let blocked : false ≡ is_blocked c.args.arrival.entry (entries_of c.args.self.now ++ c.args.arrival.entry ∷ []) =
    sym c.if-block_next.false ∙ blocked_by c.args.arrival c.request.result.now c.attribute.result (entries_of c.args.self.now) c.block_next.result c.requires.fresh c.request.ensures c.attribute.ensures cc in
    given_back_by c.args.self.now c.args.arrival false (Some c.enabled-task.result.1) blocked (ap Some c.enabled-task.ensures.job)
