-- The plain value of a virtqueue of either form.
use Rattle.ring_core.specs.State.{RingState}
use Rattle.virtqueue.specs.declared.any_ring.AnyRing.{AnyRing}
use Rattle.virtqueue.specs.declared.any_ring.AnyRing.TheVariants.{Split, Packed}

abbrev pub ring_state : AnyRing → RingState
ring_state (Split ring) = ring
ring_state (Packed ring) = ring
