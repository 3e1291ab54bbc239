use Rattle.std.proofs.Common.{◌∙◌}
use Rattle.logical_unit.proofs.Keeping.{length_alive}
use Rattle.logical_unit.proofs.unit.UnitState.alive_count.Goals as goal

pub returns : goal.returns
returns c = rw (← c.self.view_is) (c.len.ensures.value ∙ length_alive c.self.invariant.kept)
