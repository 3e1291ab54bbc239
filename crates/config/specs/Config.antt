-- Which configurations the device takes.
use Rattle.std.specs.Prelude.{ℕ, ◌+◌, ◌*◌, ◌^◌, ◌≡◌, ◌==◌, ◌&&◌, ◌||◌, bit_and, nat_le, Bool, true, false, cond, not, List, length, map, Option, Some, None, is_none}
use Rattle.std.specs.Int.{w64, from_be_bytes}
use Rattle.command_model.specs.Identity.{is_identity}
use Rattle.std.specs.List.{list_all, list_any}
use Rattle.ring_core.specs.declared.layout.Form.{Form}
use Rattle.ring_core.specs.declared.layout.Form.TheVariants.{Split, Packed}
use Rattle.ring_core.specs.declared.layout.Layout.{Layout}
use Rattle.virtqueue.specs.Queue.{placement_of}
use Rattle.request_intake.specs.Inventory.{address_of, is_rising}
use Rattle.request_intake.specs.declared.inventory.UnitSpec.{UnitSpec}
use Rattle.config.specs.declared.config.Config.{Config}
use Rattle.config.specs.declared.config.StartFault.{StartFault}
use Rattle.config.specs.declared.config.StartFault.TheVariants.{BadConfig, NoMemory}

-- the features that the device knows (VIRTIO 1.2, 5.6.3 and 6): VIRTIO_SCSI_F_CHANGE, VIRTIO_F_INDIRECT_DESC,
-- VIRTIO_F_EVENT_IDX, VIRTIO_F_VERSION_1 and VIRTIO_F_RING_PACKED
abbrev pub known_features : ℕ
known_features = 2 ^ 2 + 2 ^ 28 + 2 ^ 29 + 2 ^ 32 + 2 ^ 34

-- a feature bit is set
abbrev pub has_bit : ℕ → ℕ → Bool
has_bit features bit = bit_and features (2 ^ bit) == 2 ^ bit

-- VIRTIO_F_VERSION_1 is set, and no feature that the device doesn't know
abbrev pub are_taken : ℕ → Bool
are_taken features = has_bit features 32 && (bit_and features known_features == features)

-- VIRTIO_F_RING_PACKED chooses the form of features that are taken
abbrev pub form_of : ℕ → Option Form
form_of features = cond (are_taken features) (Some (cond (has_bit features 34) Packed Split)) None

-- a queue of 2 to 1,024 descriptors that its ring takes
abbrev pub is_queue : Form → ℕ → Layout → Bool
is_queue form memory l = nat_le 2 l.size && nat_le l.size 1024 && is_none (placement_of form memory l)

-- a unit of a LUN to 16,383 and of 1 to 2^40 blocks, that says of itself what a unit may
abbrev pub is_unit : UnitSpec → Bool
is_unit u = nat_le u.lun 16383 && nat_le 1 u.blocks && nat_le u.blocks (2 ^ 40) && is_identity u.identity

-- own: the number that a unit's NAA designator is; 0, which is no NAA 3h and no 5h, where it has none
abbrev pub naa_number : Option (List ℕ) → ℕ
naa_number None = 0
naa_number (Some naa) = from_be_bytes w64 naa

abbrev pub naa_of : UnitSpec → ℕ
naa_of u = naa_number u.identity.naa

-- own: another unit, at another address, has this number
abbrev pub shares : UnitSpec → UnitSpec → Bool
shares u v = (naa_of v == naa_of u) && not ((v.target == u.target) && (v.lun == u.lun))

-- no other unit has the unit's NAA designator, which names it alone (SPC-4 §7.8.6.6)
abbrev pub has_own_naa : List UnitSpec → UnitSpec → Bool
has_own_naa units u = (naa_of u == 0) || not (list_any (shares u) units)

abbrev pub has_lun_0 : List UnitSpec → ℕ → Bool
has_lun_0 units target = list_any (λ u. (u.target == target) && (u.lun == 0)) units

-- 1 to 64 units in rising order, each target with LUN 0, no two of one NAA designator
abbrev pub are_units : List UnitSpec → Bool
are_units units =
    nat_le 1 (length units) && nat_le (length units) 64 && list_all is_unit units
    && is_rising (map address_of units) && list_all (λ u. has_lun_0 units u.target) units
    && list_all (has_own_naa units) units

-- a control queue, an event queue and 1 to 16 request queues
abbrev pub are_queues : Option Form → ℕ → List Layout → Bool
are_queues None memory queues = false
are_queues (Some form) memory queues =
    nat_le 3 (length queues) && nat_le (length queues) 18 && list_all (is_queue form memory) queues

-- how many bytes the pages are that it names
abbrev pub size_of : Config → ℕ
size_of c = c.pages * 4096

-- the device takes it on a memory of this size, whoever owns that: the pages that it names aren't looked at
abbrev pub is_config_for : ℕ → Config → Bool
is_config_for size c =
    are_queues (form_of c.features) size c.queues.items
    && nat_le 1 c.workers && nat_le c.workers 8 && nat_le 1 c.handoff && nat_le c.handoff 4096
    && are_units c.units.items

-- it names 1 to 65,536 pages: as many as a memory of the device's own may have
abbrev pub has_pages : Config → Bool
has_pages c = nat_le 1 c.pages && nat_le c.pages 65536

-- the device takes it, on a memory of its own
abbrev pub is_config : Config → Bool
is_config c = has_pages c && is_config_for (size_of c) c

-- a configuration is refused as such exactly where the device doesn't take it
abbrev pub StartRefusedAs : Config → StartFault → Type 0
StartRefusedAs c BadConfig = is_config c ≡ false
StartRefusedAs c NoMemory = is_config c ≡ true
