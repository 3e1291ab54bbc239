-- What the guest writes into its memory, and what it reads there. Numbers in it are little endian.
use Rattle.std.specs.Prelude.{ℕ, ◌≡◌, List, length}
use Rattle.ring_core.specs.Split.{split_descriptor}
use Rattle.ring_core.specs.Packed.{packed_descriptor}
use Rattle.guest_driver.specs.declared.guest.Buffer.{Buffer}

-- The bytes of a descriptor, as a device reads them: le64 address and le32 length, then le16 flags and
-- le16 next in a split queue (VIRTIO 1.2, 2.7.5), le16 id and le16 flags in a packed one (2.8.13).
pub record IsDescriptor (bytes : List ℕ) (buffer : Buffer) (third last : ℕ) : Type 0 where
  pub sixteen : length bytes ≡ 16
  pub in_split : split_descriptor bytes
      ≡ record { addr = buffer.at; len = buffer.len; flags = third; next_or_id = last }
  pub in_packed : packed_descriptor bytes
      ≡ record { addr = buffer.at; len = buffer.len; flags = last; next_or_id = third }
