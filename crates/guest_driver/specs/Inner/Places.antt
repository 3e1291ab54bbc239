-- Positions in the ring of a packed virtqueue, and the flags of the descriptors there (VIRTIO 1.2, 2.8.1).
use Rattle.std.specs.Prelude.{ℕ, ◌≡◌, ◌%◌, ◌==◌, Bool, bit_and}
use Rattle.ring_core.specs.Packed.{wrap_counter}
use Rattle.guest_driver.specs.declared.packed_queue.Position.{Position}

-- the position behind so many slots, round and round, and the driver's wrap counter there
pub record HasPassed (size slots : ℕ) (position : Position) : Type 0 where
  pub slot : position.slot ≡ slots % size
  pub wrap : position.wrap ≡ wrap_counter size slots

-- VIRTQ_DESC_F_AVAIL, bit 7
abbrev pub avail_flag : ℕ → Bool
avail_flag flags = bit_and flags 128 == 128

-- VIRTQ_DESC_F_USED, bit 15
abbrev pub used_flag : ℕ → Bool
used_flag flags = bit_and flags 32768 == 32768
