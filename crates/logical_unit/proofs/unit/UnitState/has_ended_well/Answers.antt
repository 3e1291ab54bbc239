use Rattle.std.proofs.Common.{◌≡◌, ap, sym, ◌∙◌, refl}
use Rattle.std.specs.Option.{option_copied}
use Rattle.task_set.specs.Inner.Tasks.{task_at}
use Rattle.logical_unit.specs.Fields.{plain_unit}
use Rattle.logical_unit.proofs.Committing.{is_of}
use Rattle.logical_unit.proofs.Through.{is_well, is_withheld, unwell_withheld, other_withheld, none_withheld}
use Rattle.logical_unit.proofs.unit.UnitState.has_ended_well.Goals as goal

pub returns-then-is_as_asked-clause-yes : goal.returns-then-is_as_asked-clause-yes
returns-then-is_as_asked-clause-yes c =
    let at = ap (λ t. task_at t c.self.inside.tasks) (sym c.ticket.ensures.entry) ∙ sym c.task.ensures ∙ ap option_copied c.in-Some.is in
    let u = plain_unit c.self.inside in
    let of = is_of c.self.invariant.kept c.args.job.now c.in-Some.task.now at (c.is_as_asked.ensures.yes c.if-is_as_asked.true) in
    λ well.
    rw (← c.self.view_is)
    (λ through. record {
      entry = c.in-Some.task.now.seen.entry;
      of = of;
      held = is_withheld u c.args.job.now c.in-Some.task.now.seen.entry c.self.invariant.kept.lawful of
          (is_well c.self.invariant.kept c.args.job.now.entry.ticket c.in-Some.task.now at ∙ sym c.has_ended_well.ensures ∙ well) through;
    })

pub returns-then-is_as_asked-clause-no : goal.returns-then-is_as_asked-clause-no
returns-then-is_as_asked-clause-no c =
    let at = ap (λ t. task_at t c.self.inside.tasks) (sym c.ticket.ensures.entry) ∙ sym c.task.ensures ∙ ap option_copied c.in-Some.is in
    λ off.
    rw (← c.self.view_is)
    (unwell_withheld (plain_unit c.self.inside) c.args.job.now
    (is_well c.self.invariant.kept c.args.job.now.entry.ticket c.in-Some.task.now at ∙ sym c.has_ended_well.ensures ∙ off))

pub returns-else-is_as_asked-clause-no : goal.returns-else-is_as_asked-clause-no
returns-else-is_as_asked-clause-no c =
    let at = ap (λ t. task_at t c.self.inside.tasks) (sym c.ticket.ensures.entry) ∙ sym c.task.ensures ∙ ap option_copied c.in-Some.is in
    λ off.
    rw (← c.self.view_is)
    (other_withheld c.self.invariant.kept (plain_unit c.self.inside) refl c.args.job.now c.in-Some.task.now at (c.is_as_asked.ensures.no off))

pub returns-in-None-clause-no : goal.returns-in-None-clause-no
returns-in-None-clause-no c =
    let at = ap (λ t. task_at t c.self.inside.tasks) (sym c.ticket.ensures.entry) ∙ sym c.task.ensures ∙ ap option_copied c.in-None.is in
    λ off.
    rw (← c.self.view_is) (none_withheld c.self.invariant.kept (plain_unit c.self.inside) refl c.args.job.now at)
