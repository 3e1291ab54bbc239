use Rattle.std.proofs.Common.{refl, ap, sym, subst, ◌∙◌, arith}
use Rattle.unit_model.specs.Steps.{Step}
use Rattle.unit_model.specs.Seen.{freed}
use Rattle.task_set.specs.Inner.Tasks.{seen_of, entries_of, without}
use Rattle.logical_unit.specs.Inner.Parts.{AreBehind}
use Rattle.logical_unit.specs.Inner.Flushes.{AreFenced}
use Rattle.logical_unit.specs.Fields.{opening_of}
use Rattle.backed_store.specs.Disks as disks
use Rattle.logical_unit.proofs.Basing.{based_on, behind_moved, behind_without}
use Rattle.std.specs.Option.{option_copied}
use Rattle.task_set.specs.Tasks.{parked_of}
use Rattle.logical_unit.proofs.Keeping.{few, has_room, may_leave, keep_leave}
use Rattle.logical_unit.proofs.Handing.{given_leave, parked_leave}
use Rattle.logical_unit.proofs.Stepping.{cannot_none, cannot_open, steps_is, handed_is}
use Rattle.logical_unit.proofs.Noting.{recorded_on}
use Rattle.logical_unit.proofs.Durable.{fenced_more, fenced_without}
use Rattle.logical_unit.proofs.unit.UnitState.leave.Goals as goal

pub returns-in_default-clause-unknown : goal.returns-in_default-clause-unknown
returns-in_default-clause-unknown c =
    rw (← c.self.view_is, ← c.ticket-ticket.ensures)
    (cannot_none c.self.invariant.kept c.ticket-ticket.result (sym c.task.ensures ∙ ap (λ w. option_copied w) c.in_default.is))

pub returns-then-not-is_ended-clause-unknown : goal.returns-then-not-is_ended-clause-unknown
returns-then-not-is_ended-clause-unknown c =
    rw (← c.self.view_is, ← c.ticket-ticket.ensures)
    (cannot_open c.self.invariant.kept c.ticket-ticket.result c.in-Some.task.now (sym c.task.ensures ∙ ap (λ w. option_copied w) c.in-Some.is) (sym c.is_ended.ensures ∙ c.if-not-is_ended.true))

pub push-requires-clause-room : goal.push-requires-clause-room
push-requires-clause-room c = has_room c.self.invariant.kept c.ticket-ticket.result c.in-Some.task.now (sym c.task.ensures ∙ ap (λ w. option_copied w) c.in-Some.is)

pub leave-requires : goal.leave-requires
leave-requires c = let most = few c.self.invariant.kept in let free = c.requires in omega (arith, most, free)

pub invariant_of-self : goal.invariant_of-self
invariant_of-self c =
    let t = c.ticket-ticket.result in
    let n = c.self.inside.log.forgotten in
    record {
      kept =
          rw (c.leave.ensures.tasks, c.push.ensures.steps)
          (keep_leave c.self.invariant.kept c.ticket-ticket.result c.in-Some.task.now _ (sym c.task.ensures ∙ ap (λ w. option_copied w) c.in-Some.is)
          (sym c.is_ended.ensures ∙ c.if-not-is_ended.false) c.push.ensures.room);
      based =
          based_on _ _ n _ (Step.Leave t) c.self.inside.log.steps _ (seen_of c.self.inside.tasks) _ c.self.invariant.based refl
          c.push.ensures.base c.push.ensures.forgotten c.push.ensures.steps
          (λ b. subst (λ ts. AreBehind n (seen_of ts)) (sym c.leave.ensures.tasks)
          (behind_moved (freed (entries_of (without t c.self.inside.tasks))) n (without t c.self.inside.tasks) (λ s. refl) (behind_without t n c.self.inside.tasks b)));
      sized = c.self.invariant.sized ∙ rw (c.push.ensures.steps) refl;
      noted = recorded_on _ (Step.Leave t) c.self.inside.log.steps _ _ c.self.invariant.noted (λ b below out. (below, refl)) c.push.ensures.steps;
      flushing =
          fenced_more (opening_of c.self.inside) (Step.Leave t) c.self.inside.log.steps _ _ (disks.hosted_of c.self.inside.store)
          (subst (λ f. AreFenced (opening_of c.self.inside) c.self.inside.log.steps f (disks.hosted_of c.self.inside.store)) (sym c.give_up.ensures)
          (fenced_without (opening_of c.self.inside) c.self.inside.log.steps c.self.inside.fence t (disks.hosted_of c.self.inside.store) c.self.invariant.flushing))
          c.push.ensures.steps;
    }

pub returns-clause-step : goal.returns-clause-step
returns-clause-step c =
    let t = c.ticket-ticket.result in
    let may = may_leave c.self.invariant.kept t c.in-Some.task.now (sym c.task.ensures ∙ ap (λ w. option_copied w) c.in-Some.is) (sym c.is_ended.ensures ∙ c.if-not-is_ended.false) in
    rw (← c.self.view_is, ← c.ticket-ticket.ensures)
    (steps_is _ _ _ _ _ _ _ _ _ _ may c.push.ensures.steps
    (ap parked_of c.leave.ensures.tasks ∙ parked_leave _ _ _ _ _ _ _ t c.self.invariant.kept may) c.push.ensures.keeps refl)

pub returns-clause-out : goal.returns-clause-out
returns-clause-out c =
    let t = c.ticket-ticket.result in
    let may = may_leave c.self.invariant.kept t c.in-Some.task.now (sym c.task.ensures ∙ ap (λ w. option_copied w) c.in-Some.is) (sym c.is_ended.ensures ∙ c.if-not-is_ended.false) in
    rw (← c.self.view_is, ← c.ticket-ticket.ensures)
    (handed_is _ _ _ _ c.leave.ensures.out (given_leave _ _ _ _ _ _ _ t c.self.invariant.kept may))
