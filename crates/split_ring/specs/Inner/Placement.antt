-- Rests on `specs/Placement.antt`; no promise rests on it.
use Rattle.std.specs.Prelude.{ℕ, ◌≡◌, Some, None}
use Rattle.ring_core.specs.State.{RingState, features_of, opening}
use Rattle.split_ring.specs.Placement.{placement_fault}
use Rattle.ring_core.specs.declared.layout.Layout.{Layout}
use Rattle.ring_core.specs.declared.layout.Form.TheVariants.{Split}
use Rattle.ring_core.specs.declared.layout.LayoutFault.{LayoutFault}
use Rattle.ring_core.specs.declared.layout.LayoutFault.TheVariants.{NoMemory}

-- a refusal names it, or want of memory where nothing is wrong
abbrev pub LayoutRefusedAs : ℕ → Layout → LayoutFault → Type 0
LayoutRefusedAs memory l NoMemory = placement_fault memory l ≡ None
LayoutRefusedAs memory l f = placement_fault memory l ≡ Some f

-- a fresh queue with this number at a place where nothing is wrong, with what it looks at of the features
abbrev pub OpensSplit : ℕ → ℕ → Layout → ℕ → RingState → Type 0
OpensSplit memory queue l features s =
    (placement_fault memory l ≡ None) × (s ≡ opening Split queue l (features_of features) memory l.size)
