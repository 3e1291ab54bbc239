use Rattle.std.proofs.Common.{◌≤◌, ◌∷◌, refl, sym, ap, subst, ◌∙◌, arith}
use Rattle.unit_model.specs.declared.reason.Reason.TheVariants as reason
use Rattle.unit_model.specs.Seen.{with_mark}
use Rattle.task_set.specs.Inner.Tasks.{seen_of}
use Rattle.logical_unit.specs.Inner.Parts.{AreBehind}
use Rattle.logical_unit.proofs.Basing.{based_way, behind_moved}
use Rattle.unit_model.specs.Steps.{Step}
use Rattle.task_set.specs.Tasks.{parked_of}
use Rattle.logical_unit.proofs.Keeping.{few, may_abort, keep_abort}
use Rattle.logical_unit.proofs.Handing.{given_abort, parked_abort}
use Rattle.logical_unit.proofs.Stepping.{steps_is, handed_is}
use Rattle.logical_unit.proofs.Noting.{recorded_on}
use Rattle.logical_unit.proofs.Durable.{fenced_more}
use Rattle.logical_unit.proofs.unit.UnitState.abort.Goals as goal

pub mark-requires : goal.mark-requires
mark-requires c = let most = few c.self.invariant.kept in let free = c.requires in omega (arith, most, free)

pub invariant_of-self-2 : goal.invariant_of-self-2
invariant_of-self-2 c =
    let ahead : 129 ≤ c.make_way.new.log.room = c.in_ok-make_way.ensures.room in
    let left = c.push.ensures.room in
    let n = c.make_way.new.log.forgotten in
    record {
      kept =
          rw (c.mark.ensures.tasks, c.push.ensures.steps, c.in_ok-make_way.ensures.steps)
          (keep_abort c.self.invariant.kept c.args.rule _ (omega (arith, ahead, left)));
      based =
          based_way _ n _ (Step.Abort c.args.rule) c.self.inside.log.steps _ (seen_of c.self.inside.tasks) _ refl
          (c.push.ensures.base ∙ c.in_ok-make_way.ensures.base) c.push.ensures.forgotten
          (c.push.ensures.steps ∙ ap (λ w. Step.Abort c.args.rule ∷ w) c.make_way.ensures.steps)
          (λ le b. subst (λ ts. AreBehind n (seen_of ts)) (sym c.mark.ensures.tasks) (behind_moved (with_mark c.args.rule reason.Aborted) n c.self.inside.tasks (λ s. refl) b))
          (c.make_way.ensures.clear c.self.invariant.based.clear);
      sized = c.self.invariant.sized ∙ rw (c.push.ensures.steps, c.in_ok-make_way.ensures.steps) refl;
      noted = recorded_on _ (Step.Abort c.args.rule) c.self.inside.log.steps _ _ c.self.invariant.noted (λ b below out. (below, refl)) (c.push.ensures.steps ∙ ap (λ w. Step.Abort c.args.rule ∷ w) c.make_way.ensures.steps);
      flushing = fenced_more _ (Step.Abort c.args.rule) _ _ _ _ c.self.invariant.flushing (c.push.ensures.steps ∙ ap (λ w. Step.Abort c.args.rule ∷ w) c.make_way.ensures.steps);
    }

pub returns-clause-step : goal.returns-clause-step
returns-clause-step c =
    rw (← c.self.view_is)
    (steps_is _ (Step.Abort c.args.rule) _ _ _ _ _ _ _ _ (may_abort c.self.invariant.kept c.args.rule)
    (c.push.ensures.steps ∙ ap (λ w. Step.Abort c.args.rule ∷ w) c.make_way.ensures.steps)
    (ap parked_of c.mark.ensures.tasks ∙ parked_abort _ _ _ _ _ _ _ c.args.rule c.self.invariant.kept) (c.push.ensures.keeps ∙ c.make_way.ensures.keeps) refl)

pub returns-clause-out : goal.returns-clause-out
returns-clause-out c =
    rw (← c.self.view_is)
    (handed_is _ _ _ _ c.mark.ensures.out (given_abort _ _ _ _ _ _ _ c.args.rule c.self.invariant.kept))
