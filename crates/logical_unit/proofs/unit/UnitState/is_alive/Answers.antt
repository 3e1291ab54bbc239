use Rattle.std.proofs.Common.{◌∙◌, ap}
use Rattle.unit_model.specs.Seen.{any_met}
use Rattle.logical_unit.proofs.Keeping.{entries_alive}
use Rattle.logical_unit.proofs.unit.UnitState.is_alive.Goals as goal

pub returns : goal.returns
returns c = rw (← c.self.view_is) (c.is_met.ensures ∙ ap (any_met c.args.rule) (entries_alive c.self.invariant.kept))
