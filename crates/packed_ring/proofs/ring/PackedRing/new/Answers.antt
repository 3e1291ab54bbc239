use Rattle.std.proofs.Common.{refl}
use Rattle.ring_core.specs.State.{features_of}
use Rattle.packed_ring.proofs.Opening.{fresh}
use Rattle.packed_ring.proofs.ring.PackedRing.new.Goals as goal

pub invariant_of-result : goal.invariant_of-result
invariant_of-result g c =
    rw (c.packed-base.ensures, c.of-features.ensures) (fresh c.args.queue c.args.layout (features_of c.args.features) c.size-bytes.result 65536 refl c.in_ok-check_layout.ensures c.size-bytes.ensures.bounded)
