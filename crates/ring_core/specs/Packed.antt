-- A packed virtqueue (VIRTIO 1.2, 2.8): which chain lies at its next slot, and what a completion writes.
use Rattle.std.specs.Prelude.{ℕ, zero, suc, ◌+◌, ◌*◌, ◌-◌, ◌%◌, ◌/◌, ◌==◌, ◌&&◌, ◌||◌, not, nat_lt, nat_le, Bool, false, ◌≡◌, cond, List, [], ◌∷◌, ◌++◌, length, drop, Option, is_some, bit_and}
use Rattle.byteorder.specs.Endian.{little_number, little_bytes}
use Rattle.guest_mem.specs.Memory.{bytes_at}
use Rattle.ring_core.specs.State.{RingState, under}
use Rattle.ring_core.specs.Walk.{goes_on, is_indirect, first_of, buffer_tests, table_wrong, by_next, Sequence, IsChain, ChainFails}
use Rattle.ring_core.specs.Writes.{Write}
use Rattle.ring_core.specs.declared.layout.Layout.{Layout}
use Rattle.ring_core.specs.declared.layout.RingIndex.{RingIndex}
use Rattle.ring_core.specs.declared.layout.Features.{Features}
use Rattle.ring_core.specs.declared.descriptor.Part.{Part}
use Rattle.ring_core.specs.declared.descriptor.Descriptor.{Descriptor}
use Rattle.ring_core.specs.declared.before.Before.{Before}
use Rattle.ring_core.specs.declared.fault.RingFault.{RingFault}
use Rattle.ring_core.specs.declared.fault.RingFault.TheVariants.{ChainTooLong, AlreadyOutstanding, RingOverrun}

-- The ring of descriptors (2.8.13): le64 addr, le32 len, le16 id, le16 flags

abbrev pub packed_descriptor : List ℕ → Descriptor
packed_descriptor bytes =
    record {
      addr = little_number 8 bytes;
      len = little_number 4 (drop 8 bytes);
      flags = little_number 2 (drop 14 bytes);
      next_or_id = little_number 2 (drop 12 bytes);
    }

-- the descriptor in the slot that is reached once t slots were passed, round and round
abbrev pub slot_at : Layout → List ℕ → ℕ → Descriptor
slot_at l m t = packed_descriptor (bytes_at m (l.desc + 16 * (t % l.size)) 16)

-- the slots from there on, as a sequence
abbrev pub slots_from : Layout → List ℕ → ℕ → ℕ → Descriptor
slots_from l m t k = slot_at l m (t + k)

-- the wrap counter once t slots were passed: 1 at first, and turned at each round (2.8.1)
abbrev pub wrap_counter : ℕ → ℕ → Bool
wrap_counter size t = t / size % 2 == 0

abbrev pub avail_bit : Descriptor → Bool
avail_bit d = bit_and d.flags 128 == 128

abbrev pub used_bit : Descriptor → Bool
used_bit d = bit_and d.flags 32768 == 32768

-- the slots that were passed at an index, since a round began with wrap counter 1
abbrev pub passed_at : ℕ → RingIndex → ℕ
passed_at size i = i.index + cond i.wrap 0 size

-- the index that is reached once t slots were passed
abbrev pub index_at : ℕ → ℕ → RingIndex
index_at size t = record { index = t % size; wrap = wrap_counter size t }

-- how many were passed before the next available slot, and before the next used one: those before the first, and those
-- of all chains accepted or used
abbrev pub available_place : RingState → ℕ
available_place s = s.accepted_slots + passed_at s.layout.size s.layout.first_available

abbrev pub used_place : RingState → ℕ
used_place s = s.used_slots + passed_at s.layout.size s.layout.first_used

-- the next slot holds an available descriptor: AVAIL is the driver's wrap counter, and USED isn't
abbrev pub is_available : RingState → List ℕ → Bool
is_available s m =
    let d = slot_at s.layout m (available_place s) in
    cond (wrap_counter s.layout.size (available_place s))
    (avail_bit d && not (used_bit d))
    (not (avail_bit d) && used_bit d)

-- what is wrong with a descriptor of the run in the ring, in a memory and a ring of these sizes. One that names a table
-- has no buffer.
abbrev pub packed_wrong : Features → ℕ → ℕ → Before → Descriptor → Option RingFault
packed_wrong features memory size before d =
    cond (is_indirect d)
    (table_wrong features memory d)
    (first_of (
    buffer_tests memory before d
    ++ (goes_on d && nat_le size (before.count + 1), ChainTooLong)
    ∷ []))

-- the slots of the ring from t on: consecutive ones to the first without NEXT (2.8.6)
abbrev pub packed_slots : Features → List ℕ → Layout → ℕ → Sequence
packed_slots features m l t =
    record { at = slots_from l m t; on = by_next; wrong = packed_wrong features (length m) l.size }

-- the k-th entry of the table that a descriptor names
abbrev pub entry_of : List ℕ → Descriptor → ℕ → Descriptor
entry_of m d k = packed_descriptor (bytes_at m (d.addr + 16 * k) 16)

-- its entries as a sequence: all of them in order, of whose flags WRITE alone counts (2.8.7)
abbrev pub packed_table : List ℕ → Descriptor → Sequence
packed_table m d =
    record {
      at = entry_of m d;
      on = λ before e. nat_lt (before.count + 1) (d.len / 16);
      wrong = λ before e. first_of (buffer_tests (length m) before e);
    }

-- the chain in the slots from t on has these parts, the id of the last slot of its run in the ring (2.8.6), and as many
-- slots as that has
abbrev pub PackedChain : Features → List ℕ → Layout → ℕ → ℕ → ℕ → List Part → Type 0
PackedChain features m l t id slots parts =
    (direct : List Descriptor) × (last : Descriptor)
    × IsChain (packed_slots features m l t) (packed_table m) direct last parts
    × (id ≡ last.next_or_id) × (slots ≡ length direct + 1)

-- the first thing wrong with it
abbrev pub PackedFails : Features → List ℕ → Layout → ℕ → RingFault → Type 0
PackedFails features m l t f = ChainFails (packed_slots features m l t) (packed_table m) f

-- what is wrong with a whole chain of this id and so many slots
abbrev pub chain_wrong : RingState → ℕ → ℕ → Option RingFault
chain_wrong s id slots =
    first_of (
    (is_some (under s id), AlreadyOutstanding)
    ∷ (nat_lt s.layout.size (s.accepted_slots - s.used_slots + slots), RingOverrun)
    ∷ [])

-- the flags of a used descriptor: AVAIL and USED are the device's wrap counter (2.8.1), WRITE says that something was
-- written (2.8.3)
abbrev pub used_flags : Bool → ℕ → ℕ
used_flags wrap len = cond wrap 32896 0 + cond (nat_lt 0 len) 2 0

-- what a completion writes (2.8.3, 2.8.4): len, id and flags of one used descriptor in the device's next slot;
-- its addr stays
abbrev pub packed_used_writes : RingState → ℕ → ℕ → List Write
packed_used_writes s id len =
    let flags = used_flags (wrap_counter s.layout.size (used_place s)) len in
    record {
      addr = s.layout.desc + 16 * (used_place s % s.layout.size) + 8;
      bytes = little_bytes 4 len ++ little_bytes 2 id ++ little_bytes 2 flags;
    }
    ∷ []

-- The driver event suppression area (2.8.10, 2.8.14): le16 offset and wrap, le16 flags

-- RING_EVENT_FLAGS_DISABLE is 1, RING_EVENT_FLAGS_DESC 2
abbrev pub event_flags : RingState → List ℕ → ℕ
event_flags s m = little_number 2 (bytes_at m (s.layout.driver + 2) 2) % 4

abbrev pub event_offset_wrap : RingState → List ℕ → ℕ
event_offset_wrap s m = little_number 2 (bytes_at m s.layout.driver 2)

-- the slot that is reached once t slots were passed is the one that an offset and wrap names: its number is the offset,
-- and the wrap bit (15) is the wrap counter there
abbrev pub is_named : ℕ → ℕ → ℕ → Bool
is_named size offset_wrap t =
    (t % size == offset_wrap % 32768) && (cond (offset_wrap / 32768 == 1) (wrap_counter size t) (not (wrap_counter size t)))

-- one of n slots from where t were passed is named
unfoldable pub names_one : ℕ → ℕ → ℕ → ℕ → Bool
names_one size offset_wrap t zero = false
names_one size offset_wrap t (suc n) = names_one size offset_wrap t n || is_named size offset_wrap (t + n)

-- a notice is wanted of the latest used chain: where event indices were agreed and flags are DESC, that is the one of
-- whose slots one is named; before the first completion there is none. Otherwise always, but with flags DISABLE.
abbrev pub packed_wants_notice : RingState → List ℕ → Bool
packed_wants_notice s m =
    cond (s.features.event_index && (event_flags s m == 2))
    (names_one s.layout.size (event_offset_wrap s m) (used_place s - s.latest_slots) s.latest_slots)
    (not (event_flags s m == 1))
