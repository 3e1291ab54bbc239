use Rattle.std.proofs.Common.{◌≡◌, true, IfSome, ap, sym, subst, ◌∙◌, refl}
use Rattle.std.specs.Option.{option_copied}
use Rattle.unit_model.specs.Flushing.{IsThrough}
use Rattle.logical_unit.specs.Fields.{opening_of, plain_unit}
use Rattle.logical_unit.specs.Inner.Flushes.{fence_of}
use Rattle.logical_unit.proofs.Durable.{kept_on, may_follow, over_through}
use Rattle.logical_unit.proofs.unit.UnitState.is_through.Goals as goal

pub invariant_of-self : goal.invariant_of-self
invariant_of-self c =
    let u = c.self.inside in
    let at = sym c.task.ensures ∙ ap option_copied c.in-Some.is in
    let may = may_follow c.self.invariant.kept c.args.ticket c.in-Some.task.now _ at c.place.ensures (rw (← c.self.view_is) at c.requires.ran) in
    record {
      kept = kept_on (opening_of u) u.log.steps _ _ u.attentions u.tasks u.last_tickets u.log.room c.self.invariant.kept c.is_through.ensures.blocks;
      based = c.self.invariant.based;
      sized = c.is_through.ensures.size ∙ c.self.invariant.sized;
      noted = c.self.invariant.noted;
      flushing = c.is_through.ensures.fenced (opening_of u) u.log.steps may c.self.invariant.kept.stored c.self.invariant.flushing;
    }

pub returns-in-Some-clause-through : goal.returns-in-Some-clause-through
returns-in-Some-clause-through c =
    let u = c.self.inside in
    let at = sym c.task.ensures ∙ ap option_copied c.in-Some.is in
    let may = may_follow c.self.invariant.kept c.args.ticket c.in-Some.task.now _ at c.place.ensures (rw (← c.self.view_is) at c.requires.ran) in
    λ yes.
    rw (← c.self.view_is)
    (subst (λ x. IfSome x (λ l. IsThrough (opening_of u) u.log.steps l c.args.ticket)) c.is_through.ensures.storage
    (over_through (opening_of u) u.log.steps (fence_of c.args.ticket c.place.result true) c.is_through.new.disk refl
    (c.is_through.ensures.since (opening_of u) u.log.steps may c.self.invariant.kept.stored c.self.invariant.flushing yes)
    (c.is_through.ensures.over yes)))
