-- Which queues of a device on live memory its host has mapped: those of which each byte lies in a region.
use Rattle.std.specs.Prelude.{ℕ, ◌≡◌, ◌+◌, ◌*◌, ◌≤◌, ◌<◌, ◌↔◌, Bool, true, cond, List, slice_get, Some}
use Rattle.ring_core.specs.declared.layout.Layout.{Layout}
use Rattle.config.specs.Config.{has_bit}
use Rattle.config.specs.declared.config.Config.{Config}
use Rattle.device_steps.specs.Settling.{asks}
use Rattle.c_calls.specs.declared.region.Region.{Region}

-- a region has an address
abbrev pub IsIn : Region → ℕ → Type 0
IsIn r p = (r.guest ≤ p) × (p < r.guest + r.size)

-- the byte at an address is mapped
abbrev pub HasByte : List Region → ℕ → Type 0
HasByte regions p = (k : ℕ) × (r : Region) × (slice_get regions k ≡ Some r) × IsIn r p

-- so many bytes from an address on are mapped
abbrev pub HasBytes : List Region → ℕ → ℕ → Type 0
HasBytes regions addr count = (p : ℕ) → addr ≤ p → p < addr + count → HasByte regions p

-- how many bytes the driver area and the device area have: of a split queue the rings with their event index (VIRTIO 1.2,
-- 2.7.6 and 2.7.8), of a packed one the event suppression structures (2.8.10)
abbrev pub driver_bytes : Bool → ℕ → ℕ
driver_bytes packed size = cond packed 4 (6 + 2 * size)

abbrev pub device_bytes : Bool → ℕ → ℕ
device_bytes packed size = cond packed 4 (6 + 8 * size)

-- each byte of a queue's descriptors, of 16 bytes each, and of its two areas is mapped
pub record IsMapped (regions : List Region) (packed : Bool) (l : Layout) : Type 0 where
  pub desc : HasBytes regions l.desc (16 * l.size)
  pub driver : HasBytes regions l.driver (driver_bytes packed l.size)
  pub device : HasBytes regions l.device (device_bytes packed l.size)

-- where the queues lie, in which form, and which are mapped: those whose bit is set, that of queue 0 the lowest
pub record PlainRings : Type 0 where
  pub layouts : List Layout
  pub packed : Bool
  pub mapped : ℕ

-- those of a configuration, none of which is mapped
abbrev pub opening_rings : Config → PlainRings
opening_rings c = record { layouts = c.queues.items; packed = has_bit c.features 34; mapped = 0 }

-- the bits of these queues are set exactly where they are mapped
abbrev pub AreMarked : List Region → Bool → List Layout → ℕ → Type 0
AreMarked regions packed layouts bits =
    (k : ℕ) (l : Layout) → slice_get layouts k ≡ Some l → (asks bits k ≡ true) ↔ IsMapped regions packed l

-- the same queues, of which those are mapped that lie in these regions
pub record MapsRings (regions : List Region) (r r' : PlainRings) : Type 0 where
  pub layouts : r'.layouts ≡ r.layouts
  pub packed : r'.packed ≡ r.packed
  pub mapped : AreMarked regions r.packed r.layouts r'.mapped
