use Rattle.logical_unit.proofs.Handing.{is_unit}
use Rattle.logical_unit.proofs.unit.UnitState.stands.Goals as goal

pub returns : goal.returns
returns c = rw (← c.self.view_is) (is_unit _ _ _ _ _ _ _ _ _ c.self.invariant.kept)
