use Rattle.std.proofs.Common.{sym, ◌∙◌, ap, subst, not}
use Rattle.unit_model.specs.Seen.{any_before}
use Rattle.unit_model.proofs.Waiting.{clear_is}
use Rattle.logical_unit.specs.Fields.{opening_of}
use Rattle.unit_log.specs.Inner.Recorded.{Tells}
use Rattle.logical_unit.specs.Inner.Parts.{AreBehind}
use Rattle.logical_unit.proofs.Basing.{clear_forgotten_place}
use Rattle.logical_unit.proofs.unit.UnitState.clear_of.Goals as goal

pub returns-in-None : goal.returns-in-None
returns-in-None c =
    rw (← c.self.view_is)
    (sym (clear_forgotten_place (opening_of c.self.inside) c.self.inside.log.forgotten c.args.place c.self.inside.log.steps c.self.invariant.kept.lawful
    (subst (AreBehind c.self.inside.log.forgotten) c.self.invariant.kept.set c.self.invariant.based.clear.1)
    (subst (Tells c.self.inside.log.forgotten c.args.place c.self.inside.log.steps) c.in-None.is c.rule_at.ensures)))

pub returns-in-Some : goal.returns-in-Some
returns-in-Some c =
    rw (← c.self.view_is)
    (ap not (c.is_met_before.ensures ∙ ap (any_before c.args.place c.in-Some.rule) c.self.invariant.kept.set)
    ∙ sym (clear_is (opening_of c.self.inside) c.args.place c.in-Some.rule c.self.inside.log.steps c.self.invariant.kept.lawful
    (subst (Tells c.self.inside.log.forgotten c.args.place c.self.inside.log.steps) c.in-Some.is c.rule_at.ensures)))
