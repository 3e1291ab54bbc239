-- A split virtqueue (VIRTIO 1.2, 2.7): which chain lies at its next entry, and what a completion writes.
use Rattle.std.specs.Prelude.{ℕ, zero, suc, ◌+◌, ◌*◌, ◌-◌, ◌%◌, ◌/◌, ◌==◌, ◌&&◌, not, nat_lt, nat_le, Bool, cond, List, [], ◌∷◌, ◌++◌, length, drop, Option, is_some, bit_and}
use Rattle.byteorder.specs.Endian.{little_number, little_bytes}
use Rattle.guest_mem.specs.Memory.{bytes_at}
use Rattle.ring_core.specs.State.{RingState, under, no_features}
use Rattle.ring_core.specs.Walk.{goes_on, is_indirect, first_of, buffer_tests, table_wrong, by_next, Sequence, IsChain, ChainFails}
use Rattle.ring_core.specs.Writes.{Write}
use Rattle.ring_core.specs.declared.layout.Features.{Features}
use Rattle.ring_core.specs.declared.descriptor.Part.{Part}
use Rattle.ring_core.specs.declared.descriptor.Descriptor.{Descriptor}
use Rattle.ring_core.specs.declared.before.Before.{Before}
use Rattle.ring_core.specs.declared.fault.RingFault.{RingFault}
use Rattle.ring_core.specs.declared.fault.RingFault.TheVariants.{IndexJump, HeadOutOfRange, NextOutOfRange, ChainTooLong, AlreadyOutstanding}

-- The table of descriptors (2.7.5): le64 addr, le32 len, le16 flags, le16 next

abbrev pub split_descriptor : List ℕ → Descriptor
split_descriptor bytes =
    record {
      addr = little_number 8 bytes;
      len = little_number 4 (drop 8 bytes);
      flags = little_number 2 (drop 12 bytes);
      next_or_id = little_number 2 (drop 14 bytes);
    }

-- the descriptor of this number in a table
abbrev pub in_table : List ℕ → ℕ → ℕ → Descriptor
in_table m table number = split_descriptor (bytes_at m (table + 16 * number) 16)

-- the number of the k-th descriptor on the path by `next` from a head
unfoldable pub number_on : List ℕ → ℕ → ℕ → ℕ → ℕ
number_on m table head zero = head
number_on m table head (suc k) = (in_table m table (number_on m table head k)).next_or_id

-- the path from a head, as a sequence
abbrev pub path : List ℕ → ℕ → ℕ → ℕ → Descriptor
path m table head k = in_table m table (number_on m table head k)

-- what is wrong with a descriptor of a run, in a memory of this size, where the run has at most so many and their
-- numbers are below that. One that names a table has no buffer.
abbrev pub split_wrong : Features → ℕ → ℕ → Before → Descriptor → Option RingFault
split_wrong features memory size before d =
    cond (is_indirect d)
    (table_wrong features memory d)
    (first_of (
    buffer_tests memory before d
    ++ (goes_on d && nat_le size d.next_or_id, NextOutOfRange)
    ∷ (goes_on d && nat_le size (before.count + 1), ChainTooLong)
    ∷ []))

-- a table of so many descriptors, from a head on
abbrev pub split_path : Features → List ℕ → ℕ → ℕ → ℕ → Sequence
split_path features m table size head =
    record { at = path m table head; on = by_next; wrong = split_wrong features (length m) size }

-- the table that a descriptor names, from its entry 0 on; none of its entries names another (2.7.5.3.1)
abbrev pub split_table : List ℕ → Descriptor → Sequence
split_table m d = split_path no_features m d.addr (d.len / 16) 0

-- the chain at a head of the queue's table has these parts
abbrev pub SplitChain : Features → List ℕ → ℕ → ℕ → ℕ → List Part → Type 0
SplitChain features m table size head parts =
    (direct : List Descriptor) × (last : Descriptor)
    × IsChain (split_path features m table size head) (split_table m) direct last parts

-- the first thing wrong with it
abbrev pub SplitFails : Features → List ℕ → ℕ → ℕ → ℕ → RingFault → Type 0
SplitFails features m table size head f = ChainFails (split_path features m table size head) (split_table m) f

-- The available ring (2.7.6): le16 flags, le16 idx, le16 ring[size]

-- the index of the next entry: as many as were accepted behind that of the first one, modulo 65,536 (2.7.6)
abbrev pub available_index : RingState → ℕ
available_index s = (s.layout.first_available.index + length s.log.accepted) % 65536

-- how many of its entries weren't accepted yet: idx ahead of that
abbrev pub ahead : RingState → List ℕ → ℕ
ahead s m = (little_number 2 (bytes_at m (s.layout.driver + 2) 2) + 65536 - available_index s) % 65536

-- the head that the next entry names
abbrev pub next_head : RingState → List ℕ → ℕ
next_head s m =
    little_number 2 (bytes_at m (s.layout.driver + 4 + 2 * (available_index s % s.layout.size)) 2)

-- what is wrong with the next entry
abbrev pub entry_wrong : RingState → List ℕ → Option RingFault
entry_wrong s m =
    first_of (
    (nat_lt s.layout.size (ahead s m), IndexJump)
    ∷ (nat_le s.layout.size (next_head s m), HeadOutOfRange)
    ∷ (is_some (under s (next_head s m)), AlreadyOutstanding)
    ∷ [])

-- VIRTQ_AVAIL_F_NO_INTERRUPT isn't set (2.7.7)
abbrev pub split_interrupts : RingState → List ℕ → Bool
split_interrupts s m = not (bit_and (little_number 2 (bytes_at m s.layout.driver 2)) 1 == 1)

-- used_event, behind the entries (2.7.6, 2.7.7)
abbrev pub used_event : RingState → List ℕ → ℕ
used_event s m = little_number 2 (bytes_at m (s.layout.driver + 4 + 2 * s.layout.size) 2)

-- the used index behind so many completions, modulo 65,536 (2.7.8)
abbrev pub used_index_after : RingState → ℕ → ℕ
used_index_after s n = (s.layout.first_used.index + n) % 65536

-- a notice is wanted of the latest used chain: where event indices were agreed, that is the one whose completion found
-- used_event as the used index; before the first completion there is none (2.7.7.2)
abbrev pub split_wants_notice : RingState → List ℕ → Bool
split_wants_notice s m =
    cond s.features.event_index
    (nat_lt 0 (length s.log.used) && (used_event s m == used_index_after s (length s.log.used - 1)))
    (split_interrupts s m)

-- The used ring (2.7.8): le16 flags, le16 idx, elements of le32 id and le32 len

-- what a completion writes: the element in the slot of the used index, and then the next index
abbrev pub split_used_writes : RingState → ℕ → ℕ → List Write
split_used_writes s head len =
    let own : ℕ = used_index_after s (length s.log.used) in
    record { addr = s.layout.device + 4 + 8 * (own % s.layout.size); bytes = little_bytes 4 head ++ little_bytes 4 len }
    ∷ record { addr = s.layout.device + 2; bytes = little_bytes 2 ((own + 1) % 65536) }
    ∷ []
