-- What both forms of queue share: a sequence of descriptors in memory, the run at its beginning, and the chain that is
-- one such run or two (VIRTIO 1.2, 2.7.5, 2.7.5.3, 2.8.6 and 2.8.7).
use Rattle.std.specs.Prelude.{ℕ, zero, suc, ◌≡◌, ◌⊎◌, ◌+◌, ◌%◌, ◌^◌, ◌<◌, ◌==◌, ◌&&◌, ◌||◌, not, nat_lt, Bool, true, false, cond, List, [], ◌∷◌, ◌++◌, length, map, sum_by, Option, Some, None, bit_and}
use Rattle.std.specs.List.{list_any}
use Rattle.ring_core.specs.declared.layout.Features.{Features}
use Rattle.ring_core.specs.declared.descriptor.Part.{Part}
use Rattle.ring_core.specs.declared.descriptor.Descriptor.{Descriptor}
use Rattle.ring_core.specs.declared.before.Before.{Before}
use Rattle.ring_core.specs.declared.fault.RingFault.{RingFault}
use Rattle.ring_core.specs.declared.fault.RingFault.TheVariants.{BadIndirect, BufferOutside, ReadableAfterWritable, ChainTooLong}

-- VIRTQ_DESC_F_NEXT (2.7.5, 2.8.6): another descriptor follows
abbrev pub goes_on : Descriptor → Bool
goes_on d = bit_and d.flags 1 == 1

-- VIRTQ_DESC_F_WRITE (2.7.5, 2.8.3): its buffer is the device's to write
abbrev pub is_writable : Descriptor → Bool
is_writable d = bit_and d.flags 2 == 2

-- VIRTQ_DESC_F_INDIRECT (2.7.5, 2.8.7): its buffer is a table of descriptors
abbrev pub is_indirect : Descriptor → Bool
is_indirect d = bit_and d.flags 4 == 4

abbrev pub part_of : Descriptor → Part
part_of d = record { addr = d.addr; len = d.len; writable = is_writable d }

-- the fault of the first test that holds
abbrev pub first_of : List (Bool × RingFault) → Option RingFault
first_of [] = None
first_of (test ∷ tests) = cond test.0 (Some test.1) (first_of tests)

-- nothing stands before the first run of a chain
abbrev pub nothing_before : Before
nothing_before = record { count = 0; total = 0; writable = false }

-- what some descriptors of a run amount to, behind what stood before the run: they alone count, total and writable go
-- on
abbrev pub amount : Before → List Descriptor → Before
amount first ds =
    record {
      count = length ds;
      total = first.total + sum_by (λ d. d.len) ds;
      writable = first.writable || list_any is_writable ds;
    }

-- what can be wrong with a descriptor's buffer, behind what stands before it
abbrev pub buffer_tests : ℕ → Before → Descriptor → List (Bool × RingFault)
buffer_tests memory before d =
    (not (d.len == 0) && nat_lt memory (d.addr + d.len), BufferOutside)
    ∷ (not (is_writable d) && before.writable, ReadableAfterWritable)
    ∷ (nat_lt (2 ^ 32) (before.total + d.len), ChainTooLong)
    ∷ []

-- what can be wrong with a descriptor that has INDIRECT, in a memory of this size: no tables were agreed, another
-- descriptor follows it, its table has no bytes or no whole number of entries, or doesn't lie in memory (2.7.5.3, 2.8.7)
abbrev pub table_wrong : Features → ℕ → Descriptor → Option RingFault
table_wrong features memory d =
    first_of (
    (not features.indirect_descriptors, BadIndirect)
    ∷ (goes_on d, BadIndirect)
    ∷ (d.len == 0, BadIndirect)
    ∷ (not (d.len % 16 == 0), BadIndirect)
    ∷ (nat_lt memory (d.addr + d.len), BadIndirect)
    ∷ [])

-- the first n descriptors of a sequence
unfoldable pub front : (ℕ → Descriptor) → ℕ → List Descriptor
front at zero = []
front at (suc n) = front at n ++ at n ∷ []

-- A sequence of descriptors: which one stands at each index, whether a run along it goes on past one, and what is wrong
-- with one, each behind all that stands before it
pub record Sequence : Type 0 where
  pub at : ℕ → Descriptor
  pub on : Before → Descriptor → Bool
  pub wrong : Before → Descriptor → Option RingFault

-- A run along a sequence, behind what `first` says stands before it:
module _ (s : Sequence) (first : Before) where
  -- the first n are right, and the run goes on past each of them
  unfoldable pub LeadsTo : ℕ → Type 0
  LeadsTo n =
      (k : ℕ) → k < n
      → (s.wrong (amount first (front s.at k)) (s.at k) ≡ None)
      × (s.on (amount first (front s.at k)) (s.at k) ≡ true)

  -- a run: those that it goes on past, and the last, past which it doesn't; each of them is right
  unfoldable pub IsRun : List Descriptor → Descriptor → Type 0
  IsRun direct last =
      (n : ℕ) × LeadsTo n
      × (s.wrong (amount first (front s.at n)) (s.at n) ≡ None)
      × (s.on (amount first (front s.at n)) (s.at n) ≡ false)
      × (direct ≡ front s.at n) × (last ≡ s.at n)

  -- the first thing wrong
  unfoldable pub IsFault : RingFault → Type 0
  IsFault f = (n : ℕ) × LeadsTo n × (s.wrong (amount first (front s.at n)) (s.at n) ≡ Some f)

-- a run goes on past a descriptor with NEXT, whatever stands before it
abbrev pub by_next : Before → Descriptor → Bool
by_next before d = goes_on d

-- the buffers at the end of a chain, behind those before the last of its run in the ring: that one's own, or where it
-- has INDIRECT those of the run over the table that it names, whose sequence `table` gives
abbrev pub EndsIn : (Descriptor → Sequence) → Before → Descriptor → List Descriptor → Type 0
EndsIn table before last ends =
    ((is_indirect last ≡ false) × (ends ≡ last ∷ []))
    ⊎ ((is_indirect last ≡ true)
    × ((direct : List Descriptor) × (end : Descriptor) × IsRun (table last) before direct end
    × (ends ≡ direct ++ end ∷ [])))

-- a chain with these parts, whose run in the ring is this
abbrev pub IsChain : Sequence → (Descriptor → Sequence) → List Descriptor → Descriptor → List Part → Type 0
IsChain ring table direct last parts =
    IsRun ring nothing_before direct last
    × ((ends : List Descriptor) × EndsIn table (amount nothing_before direct) last ends
    × (parts ≡ map part_of (direct ++ ends)))

-- the first thing wrong with a chain: in the ring, or in the table that the last of its run there names
abbrev pub ChainFails : Sequence → (Descriptor → Sequence) → RingFault → Type 0
ChainFails ring table f =
    IsFault ring nothing_before f
    ⊎ ((direct : List Descriptor) × (last : Descriptor) × IsRun ring nothing_before direct last
    × (is_indirect last ≡ true) × IsFault (table last) (amount nothing_before direct) f)
