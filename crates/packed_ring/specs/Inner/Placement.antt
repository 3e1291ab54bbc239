-- Rests on `specs/Placement.antt`; no promise rests on it.
use Rattle.std.specs.Prelude.{ℕ, ◌≡◌, Some, None}
use Rattle.ring_core.specs.State.{RingState, features_of, opening}
use Rattle.packed_ring.specs.Placement.{placement_fault}
use Rattle.ring_core.specs.declared.layout.Layout.{Layout}
use Rattle.ring_core.specs.declared.layout.Form.TheVariants.{Packed}
use Rattle.ring_core.specs.declared.layout.LayoutFault.{LayoutFault}

-- this is the first thing wrong with it
abbrev pub IsMisplaced : ℕ → Layout → LayoutFault → Type 0
IsMisplaced memory l f = placement_fault memory l ≡ Some f

-- a fresh queue with this number at a place where nothing is wrong, with what it looks at of the features, whose ids are
-- any of two bytes
abbrev pub OpensPacked : ℕ → ℕ → Layout → ℕ → RingState → Type 0
OpensPacked memory queue l features s =
    (placement_fault memory l ≡ None) × (s ≡ opening Packed queue l (features_of features) memory 65536)
