use Rattle.virtqueue.proofs.any_ring.AnyRingRing.least_outstanding.Goals as goal

pub returns-in-Split : goal.returns-in-Split
returns-in-Split c = rw c.in-Split.is c.least_outstanding.ensures

pub returns-in-Packed : goal.returns-in-Packed
returns-in-Packed c = rw c.in-Packed.is c.least_outstanding-in-Packed.ensures
