-- Available buffer notifications, as a device asks its driver for them: of the next chain that is made available, or of
-- none (VIRTIO 1.2, 2.3, 2.7.10 and 2.8.10).
use Rattle.std.specs.Prelude.{ℕ, ◌+◌, ◌*◌, ◌%◌, ◌==◌, ◌&&◌, not, Bool, cond, List, ◌++◌, Option, Some, None, is_some, bit_and}
use Rattle.byteorder.specs.Endian.{little_number, little_bytes}
use Rattle.guest_mem.specs.Memory.{bytes_at}
use Rattle.ring_core.specs.State.{RingState}
use Rattle.ring_core.specs.Split.{available_index}
use Rattle.ring_core.specs.Packed.{available_place, index_at, names_one}
use Rattle.ring_core.specs.Writes.{Write}
use Rattle.ring_core.specs.declared.asking.Notify.{Notify}
use Rattle.ring_core.specs.declared.asking.Notify.TheVariants.{Next, Never}
use Rattle.ring_core.specs.declared.layout.Features.{Features}
use Rattle.ring_core.specs.declared.layout.Form.{Form}
use Rattle.ring_core.specs.declared.layout.Form.TheVariants.{Split, Packed}
use Rattle.ring_core.specs.declared.layout.Layout.{Layout}
use Rattle.ring_core.specs.declared.layout.RingIndex.{RingIndex}

-- In a split queue: le16 flags at the start of the used ring, le16 avail_event behind its elements (2.7.8)

abbrev pub avail_event_at : Layout → ℕ
avail_event_at l = l.device + 4 + 8 * l.size

-- avail_event: the driver notifies the device of the entry at this index (2.7.10). That before the next one is the last
-- of 65,536 to come.
abbrev pub wanted_index : RingState → Notify → ℕ
wanted_index s Next = available_index s
wanted_index s Never = (available_index s + 65535) % 65536

-- flags, without event indices: VIRTQ_USED_F_NO_NOTIFY is 1
abbrev pub used_ring_flags : Notify → ℕ
used_ring_flags Next = 0
used_ring_flags Never = 1

-- what asks the driver of a split queue: with event indices avail_event, and flags stay 0 (2.7.10.2); else flags
abbrev pub split_asking : RingState → Notify → Write
split_asking s notify =
    cond s.features.event_index
    (record { addr = avail_event_at s.layout; bytes = little_bytes 2 (wanted_index s notify) })
    (record { addr = s.layout.device; bytes = little_bytes 2 (used_ring_flags notify) })

-- In a packed one, the device event suppression area (2.8.14): le16 offset and wrap, le16 flags

-- the number of a slot in bits 0 to 14, and its wrap counter in bit 15
abbrev pub offset_and_wrap : RingIndex → ℕ
offset_and_wrap i = i.index + cond i.wrap 32768 0

-- the next slot, where the flags are DESC; with other flags it says nothing
abbrev pub wanted_slot : RingState → Notify → ℕ
wanted_slot s Next = cond s.features.event_index (offset_and_wrap (index_at s.layout.size (available_place s))) 0
wanted_slot s Never = 0

-- RING_EVENT_FLAGS_ENABLE is 0, RING_EVENT_FLAGS_DISABLE 1, RING_EVENT_FLAGS_DESC 2; that is for event indices alone
abbrev pub suppression_flags : Features → Notify → ℕ
suppression_flags features Next = cond features.event_index 2 0
suppression_flags features Never = 1

-- what asks the driver of a packed queue: its whole area, in one write
abbrev pub packed_asking : RingState → Notify → Write
packed_asking s notify =
    record {
      addr = s.layout.device;
      bytes = little_bytes 2 (wanted_slot s notify) ++ little_bytes 2 (suppression_flags s.features notify);
    }

abbrev pub asking_in_form : Form → RingState → Notify → Write
asking_in_form Split s notify = split_asking s notify
asking_in_form Packed s notify = packed_asking s notify

-- what the device writes to ask the driver of a queue; where a fault broke the queue it is nothing
abbrev pub asking : RingState → Notify → Option Write
asking s notify = cond (is_some s.broken) None (Some (asking_in_form s.form s notify))

-- The driver's side

abbrev pub avail_event : RingState → List ℕ → ℕ
avail_event s m = little_number 2 (bytes_at m (avail_event_at s.layout) 2)

-- VIRTQ_USED_F_NO_NOTIFY isn't set
abbrev pub split_notifies_always : RingState → List ℕ → Bool
split_notifies_always s m = not (bit_and (little_number 2 (bytes_at m s.layout.device 2)) 1 == 1)

-- the driver notifies the device of the entry at this index, once it made that available (2.7.10.1)
abbrev pub split_notifies : RingState → List ℕ → ℕ → Bool
split_notifies s m index = cond s.features.event_index (avail_event s m == index) (split_notifies_always s m)

abbrev pub device_event_flags : RingState → List ℕ → ℕ
device_event_flags s m = little_number 2 (bytes_at m (s.layout.device + 2) 2) % 4

abbrev pub device_event_offset_wrap : RingState → List ℕ → ℕ
device_event_offset_wrap s m = little_number 2 (bytes_at m s.layout.device 2)

-- the driver notifies the device of a chain of so many slots, from where t were passed, once it made that available
-- (2.8.10)
abbrev pub packed_notifies : RingState → List ℕ → ℕ → ℕ → Bool
packed_notifies s m t slots =
    cond (s.features.event_index && (device_event_flags s m == 2))
    (names_one s.layout.size (device_event_offset_wrap s m) t slots)
    (not (device_event_flags s m == 1))
