-- The chains of either form as properties of the descriptors in memory: no order of tests, and nothing that is
-- counted on the way.
use Rattle.std.specs.Prelude.{ℕ, ◌≡◌, ◌≢◌, ◌⊎◌, ◌+◌, ◌/◌, ◌%◌, ◌<◌, ◌≤◌, true, false, List, [], ◌∷◌, ◌++◌, length, map, Some, slice_get}
use Rattle.ring_core.specs.Walk.{goes_on, is_indirect, part_of}
use Rattle.ring_core.specs.Split.{in_table}
use Rattle.ring_core.specs.Packed.{slots_from, entry_of}
use Rattle.ring_core.specs.Table.{tabulated}
use Rattle.ring_core.specs.RightChain.{IsRightChain}
use Rattle.ring_core.specs.declared.descriptor.Part.{Part}
use Rattle.ring_core.specs.declared.descriptor.Descriptor.{Descriptor}
use Rattle.ring_core.specs.declared.layout.Layout.{Layout}
use Rattle.ring_core.specs.declared.layout.Features.{Features}

-- these are the numbers on the path by `next` from a head to the first descriptor without NEXT (VIRTIO 1.2, 2.7.5)
pub record IsPath (m : List ℕ) (table size head : ℕ) (numbers : List ℕ) : Type 0 where
  pub first : slice_get numbers 0 ≡ Some head
  pub onward : (k i j : ℕ) → slice_get numbers k ≡ Some i → slice_get numbers (k + 1) ≡ Some j
      → (goes_on (in_table m table i) ≡ true) × (j ≡ (in_table m table i).next_or_id)
  pub last : (k i : ℕ) → slice_get numbers k ≡ Some i → k + 1 ≡ length numbers → goes_on (in_table m table i) ≡ false
  -- they are at most as many as the table has, and each is that of a descriptor in it
  pub most : length numbers ≤ size
  pub below : (k i : ℕ) → slice_get numbers k ≡ Some i → i < size

-- none of these names a table
abbrev pub AreDirect : List ℕ → ℕ → List ℕ → Type 0
AreDirect m table numbers = (k i : ℕ) → slice_get numbers k ≡ Some i → is_indirect (in_table m table i) ≡ false

abbrev pub parts_at : List ℕ → ℕ → List ℕ → List Part
parts_at m table numbers = map (λ i. part_of (in_table m table i)) numbers

-- tables were agreed, and the descriptor names one: a whole number of entries, at least one, inside memory (2.7.5.3,
-- 2.8.7)
pub record NamesTable (features : Features) (m : List ℕ) (d : Descriptor) : Type 0 where
  pub agreed : features.indirect_descriptors ≡ true
  pub named : is_indirect d ≡ true
  pub some : d.len ≢ 0
  pub whole : d.len % 16 ≡ 0
  pub inside : d.addr + d.len ≤ length m

-- the parts of a path none of which names a table; or of one whose last alone does, with the path from entry 0 of that
-- table in its place, none of which names another
abbrev pub SplitParts : Features → List ℕ → ℕ → ℕ → ℕ → List Part → Type 0
SplitParts features m table size head parts =
    ((numbers : List ℕ) × IsPath m table size head numbers × AreDirect m table numbers
    × (parts ≡ parts_at m table numbers))
    ⊎ ((numbers : List ℕ) × (last : ℕ) × IsPath m table size head (numbers ++ last ∷ []) × AreDirect m table numbers
    × NamesTable features m (in_table m table last)
    × ((entries : List ℕ)
    × IsPath m (in_table m table last).addr ((in_table m table last).len / 16) 0 entries
    × AreDirect m (in_table m table last).addr entries
    × (parts ≡ parts_at m table numbers ++ parts_at m (in_table m table last).addr entries)))

-- a split chain: readable parts first, each part inside memory or empty, at most 2^32 bytes in all
abbrev pub SplitChainProperties : Features → List ℕ → ℕ → ℕ → ℕ → List Part → Type 0
SplitChainProperties features m table size head parts =
    SplitParts features m table size head parts × IsRightChain (length m) parts

-- so many slots, at most as many as the ring has, from where t slots were passed to the first descriptor without
-- NEXT (2.8.6)
pub record IsRunOfSlots (m : List ℕ) (l : Layout) (t slots : ℕ) : Type 0 where
  pub some : 1 ≤ slots
  pub most : slots ≤ l.size
  pub onward : (k : ℕ) → k + 1 < slots → goes_on (slots_from l m t k) ≡ true
  pub last : (k : ℕ) → k + 1 ≡ slots → goes_on (slots_from l m t k) ≡ false

-- the parts of n slots from there on
abbrev pub slot_parts : List ℕ → Layout → ℕ → ℕ → List Part
slot_parts m l t n = tabulated (λ k. part_of (slots_from l m t k)) n

-- none of the first n names a table
abbrev pub AreDirectSlots : List ℕ → Layout → ℕ → ℕ → Type 0
AreDirectSlots m l t n = (k : ℕ) → k < n → is_indirect (slots_from l m t k) ≡ false

-- the parts of so many slots none of which names a table; or of slots whose last alone does, with all the entries of
-- that table in its place
abbrev pub PackedParts : Features → List ℕ → Layout → ℕ → ℕ → List Part → Type 0
PackedParts features m l t slots parts =
    (AreDirectSlots m l t slots × (parts ≡ slot_parts m l t slots))
    ⊎ ((n : ℕ) × (slots ≡ n + 1) × AreDirectSlots m l t n × NamesTable features m (slots_from l m t n)
    × (parts
    ≡ slot_parts m l t n
    ++ tabulated (λ k. part_of (entry_of m (slots_from l m t n) k)) ((slots_from l m t n).len / 16)))

-- a packed chain: the id is the last slot's; the rest as in a split chain
abbrev pub PackedChainProperties : Features → List ℕ → Layout → ℕ → ℕ → ℕ → List Part → Type 0
PackedChainProperties features m l t id slots parts =
    IsRunOfSlots m l t slots × ((k : ℕ) → k + 1 ≡ slots → id ≡ (slots_from l m t k).next_or_id)
    × PackedParts features m l t slots parts × IsRightChain (length m) parts
