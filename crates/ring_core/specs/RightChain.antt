-- A chain as a device may count on (VIRTIO 1.2, 2.7.4, 2.7.5 and 2.8.5).
use Rattle.std.specs.Prelude.{ℕ, ◌≡◌, ◌<◌, ◌≤◌, true, List, length, Some, slice_get}
use Rattle.ring_core.specs.Parts.{PartsFit}
use Rattle.ring_core.specs.declared.descriptor.Part.{Part}

-- the parts of a chain are right for a memory of this size
pub record IsRightChain (memory : ℕ) (parts : List Part) : Type 0 where
  pub fit : PartsFit memory parts
  pub some : 1 ≤ length parts
  -- no readable part stands behind a writable one
  pub in_order : (j k : ℕ) (p q : Part) → j < k → slice_get parts j ≡ Some p → slice_get parts k ≡ Some q
      → p.writable ≡ true → q.writable ≡ true
