-- What a packed queue offers as a chain.
use Rattle.std.proofs.Common.{◌≡◌, ℕ, ◌+◌, List, length, None, true, arith, inl}
use Rattle.ring_core.specs.State.{RingState}
use Rattle.ring_core.specs.Walk.{nothing_before}
use Rattle.ring_core.specs.Packed.{is_available, available_place, packed_slots, packed_table}
use Rattle.ring_core.specs.Offer.{PackedOffers, Found, BeginsInForm, MayLackMemory}
use Rattle.ring_core.specs.Parts.{PartsFit}
use Rattle.ring_core.proofs.Along.{run_first}
use Rattle.ring_core.proofs.RightChains.{chain_right, packed_tests, packed_table_tests}
use Rattle.ring_core.specs.declared.descriptor.Part.{Part}
use Rattle.ring_core.specs.declared.fault.RingFault.{RingFault}
use Rattle.ring_core.specs.declared.fault.RingFault.TheVariants.{NoMemory}
use Rattle.packed_ring.specs.Inner.Answers.{PackedFailsOrLacks, PackedFaultFound}
use Rattle.ring_core.specs.declared.layout.Form.TheVariants.{Packed}

pub offer_fits : (s : RingState) (m : List ℕ) (id slots : ℕ) (parts : List Part) → PackedOffers s m (Found id slots parts) → PartsFit (length m) parts
offer_fits s m id slots parts (some, (direct, last, chain, is, count), right) =
    (chain_right (length m) (packed_slots s.features m s.layout (available_place s)) (packed_table m) (packed_tests s.features m s.layout (available_place s)) (packed_table_tests m) direct last parts chain).fit

offer_begins : (s : RingState) (m : List ℕ) (id slots : ℕ) (parts : List Part) → PackedOffers s m (Found id slots parts) → BeginsInForm Packed s m
offer_begins s m id slots parts (some, (direct, last, chain, is, count), right) =
    let e : available_place s + 0 ≡ available_place s = omega arith in
    (some, rw e at (run_first (packed_slots s.features m s.layout (available_place s)) nothing_before direct last chain.0))

-- so a fetch that finds it may want memory
pub offer_lacks : (s : RingState) (m : List ℕ) (id slots : ℕ) (parts : List Part) → s.form ≡ Packed → s.broken ≡ None → PackedOffers s m (Found id slots parts) → MayLackMemory s m
offer_lacks s m id slots parts form unbroken offer = (unbroken, rw form (offer_begins s m id slots parts offer))

-- what a walk finds wrong is what the queue offers
pub fault_found : (s : RingState) (m : List ℕ) (f : RingFault) → is_available s m ≡ true → PackedFailsOrLacks s.features m s.layout (available_place s) f → PackedFaultFound s m f
fault_found s m NoMemory some lacks = (some, lacks)
fault_found s m f some bad = (some, inl bad)
