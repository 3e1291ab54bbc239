use Rattle.ring_core.specs.Base.{state_of}
use Rattle.ring_core.proofs.Sound.{least_accounted}
use Rattle.ring_core.proofs.base.RingBase.least_outstanding.Goals as goal

pub returns : goal.returns
returns c = rw (← c.self.view_is) (least_accounted (state_of c.self.inside) c.least.result c.self.invariant c.least.ensures)
