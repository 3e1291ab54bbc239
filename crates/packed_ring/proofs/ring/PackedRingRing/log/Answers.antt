use Rattle.packed_ring.proofs.Moving.{packed-few}
use Rattle.packed_ring.proofs.ring.PackedRingRing.log.Goals as goal

pub returns-clause-few : goal.returns-clause-few
returns-clause-few c = rw (← c.self.view_is) (packed-few c.self.inside.base c.self.invariant c.log.ensures.sound)
