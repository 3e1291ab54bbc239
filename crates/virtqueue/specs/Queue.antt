-- A virtqueue as one lock lends it, where it lies, and the queue that opens there.
use Rattle.std.specs.Prelude.{ℕ, ◌≡◌, ◌+◌, List, length, Option, if◌then◌else◌}
use Rattle.ring_core.specs.State.{RingState, PlainChain, Owns, opening, using}
use Rattle.ring_core.specs.Offer.{wants_notice}
use Rattle.ring_core.specs.declared.layout.Form.{Form}
use Rattle.ring_core.specs.declared.layout.Form.TheVariants.{Split, Packed}
use Rattle.ring_core.specs.declared.layout.Features.{Features}
use Rattle.ring_core.specs.declared.layout.Layout.{Layout}
use Rattle.ring_core.specs.declared.layout.LayoutFault.{LayoutFault}
use Rattle.split_ring.specs.Placement as split
use Rattle.packed_ring.specs.Placement as packed

-- its ring, and how many notices were wanted
pub record BareQueue : Type 0 where
  pub ring : RingState
  pub notices : ℕ

abbrev pub placement_of : Form → ℕ → Layout → Option LayoutFault
placement_of Split memory l = split.placement_fault memory l
placement_of Packed memory l = packed.placement_fault memory l

-- the ring of this number for which these features were agreed, of which nothing was fetched yet
abbrev pub opening_ring : Form → ℕ → ℕ → Layout → Features → RingState
opening_ring Split memory number l features = opening Split number l features memory l.size
opening_ring Packed memory number l features = opening Packed number l features memory 65536

abbrev pub opening_queue : Form → ℕ → ℕ → Layout → Features → BareQueue
opening_queue form memory number l features =
    record { ring = opening_ring form memory number l features; notices = 0 }

-- the queue once a chain was used, and memory is this: the driver may want a notice
abbrev pub completing : List ℕ → PlainChain → BareQueue → BareQueue
completing m c q =
    record { ring = using q.ring c; notices = q.notices + (if wants_notice (using q.ring c) m then 1 else 0) }

-- the memory is the queue's, and the queue owns the chain
pub record MayComplete (q : BareQueue) (m : List ℕ) (c : PlainChain) : Type 0 where
  pub fits : length m ≡ q.ring.memory
  pub owned : Owns q.ring c
