-- What the ring's own functions answer to one another.
use Rattle.std.specs.Prelude.{ℕ, ◌≡◌, ◌/◌, ◌++◌, ◌∷◌, [], List, length, None, Result, Ok, Err}
use Rattle.ring_core.specs.State.{RingState}
use Rattle.ring_core.specs.Walk.{nothing_before, part_of}
use Rattle.ring_core.specs.Inner.Walking.{Walks}
use Rattle.ring_core.specs.Packed.{slot_at, packed_wrong, packed_table, PackedChain, PackedFails}
use Rattle.ring_core.specs.Offer.{PackedOffers, Found, Refused, BeginsInForm}
use Rattle.ring_core.specs.declared.layout.Features.{Features}
use Rattle.ring_core.specs.declared.layout.Form.TheVariants.{Packed}
use Rattle.ring_core.specs.declared.layout.Layout.{Layout}
use Rattle.ring_core.specs.declared.descriptor.Part.{Part}
use Rattle.ring_core.specs.declared.descriptor.Descriptor.{Descriptor}
use Rattle.ring_core.specs.declared.before.Before.{Before}
use Rattle.ring_core.specs.declared.run.Run.{Run}
use Rattle.packed_ring.specs.declared.walk.Candidate.{Candidate}
use Rattle.ring_core.specs.declared.fault.RingFault.{RingFault}
use Rattle.ring_core.specs.declared.fault.RingFault.TheVariants.{NoMemory}

-- the entries of the table that a descriptor names are a run, and these are its parts, behind earlier ones
abbrev pub EndsInTable : List ℕ → Descriptor → Before → List Part → List Part → Type 0
EndsInTable m d first earlier parts =
    (run : Run) × Walks (packed_table m d) (d.len / 16) first earlier run × (parts ≡ run.draft ++ part_of run.last ∷ [])

-- this is the chain in the slots from there on
abbrev pub IsFound : Features → List ℕ → Layout → ℕ → Candidate → Type 0
IsFound features m l t c = PackedChain features m l t c.id c.slots c.draft

-- a walk finds this wrong with the slots from there on; memory is wanted once the first descriptor was found right
abbrev pub PackedFailsOrLacks : Features → List ℕ → Layout → ℕ → RingFault → Type 0
PackedFailsOrLacks features m l t NoMemory =
    packed_wrong features (length m) l.size nothing_before (slot_at l m t) ≡ None
PackedFailsOrLacks features m l t f = PackedFails features m l t f

-- the offer of an unbroken queue; memory is wanted only where a chain begins
abbrev pub PackedFaultFound : RingState → List ℕ → RingFault → Type 0
PackedFaultFound s m NoMemory = BeginsInForm Packed s m
PackedFaultFound s m f = PackedOffers s m (Refused f)

abbrev pub PackedFinds : RingState → List ℕ → Result Candidate RingFault → Type 0
PackedFinds s m (Ok c) = PackedOffers s m (Found c.id c.slots c.draft)
PackedFinds s m (Err f) = PackedFaultFound s m f
