-- What is outstanding in a packed queue stays within its ring.
use Rattle.std.proofs.Common.{◌≡◌, ℕ, zero, suc, ◌+◌, ◌-◌, ◌<◌, ◌≤◌, List, [], ◌∷◌, length, get_or, sum_by, ap, Option, None, Some, arith, length-set, inl, inr}
use Rattle.std.proofs.lemmas.Grind.{common_steps}
use Rattle.std.proofs.lemmas.Bool.Decides.{nat_tests}
use Rattle.std.proofs.lemmas.List.Sums.{sum_by-cons}
use Rattle.ring_core.specs.State.{RingState, PlainChain, Owns, accepting, using}
use Rattle.ring_core.specs.Sound.{IsSound, slots_of, outstanding_count}
use Rattle.ring_core.specs.Packed.{chain_wrong}
use Rattle.ring_core.specs.Offer.{PackedOffers, Found}
use Rattle.ring_core.proofs.Few.{few_by_slots}
use Rattle.ring_core.proofs.Sound.{at_set, is_within}
use Rattle.ring_core.specs.declared.descriptor.Part.{Part}
use Rattle.ring_core.specs.declared.outstanding.OutstandingChain.{OutstandingChain}
use Rattle.packed_ring.specs.Inner.IsPacked.{IsPacked}

-- what is right of a chain that is found
right_slots : (s : RingState) (id slots : ℕ) → chain_wrong s id slots ≡ None
    → s.accepted_slots - s.used_slots + slots ≤ s.layout.size
right_slots s id slots e = grind (arith, common_steps, nat_tests)

some_slots : (s : RingState) (m : List ℕ) (id slots : ℕ) (parts : List Part) → PackedOffers s m (Found id slots parts) → 1 ≤ slots
some_slots s m id slots parts (some, (direct, last, chain, is, count), right) = omega (arith, count)

-- accepting a chain that it offers keeps what is true of it
pub packed-accept : (s : RingState) (m : List ℕ) (id slots : ℕ) (parts : List Part) → IsPacked s → PackedOffers s m (Found id slots parts)
    → id < length s.outstanding → IsPacked (accepting s id slots)
packed-accept s m id slots parts packed offer lt =
    let new : OutstandingChain = record { number = length s.log.accepted; slots = slots } in
    let right : s.accepted_slots - s.used_slots + slots ≤ s.layout.size = right_slots s id slots offer.2 in
    record {
      form = packed.form;
      some = packed.some;
      most = packed.most;
      ids = omega (arith, packed.ids, length-set s.outstanding id (Some new));
      slots = packed.slots;
      driver = packed.driver;
      device = packed.device;
      small = packed.small;
      each_slots = λ i h e.
          elim (at_set s.outstanding id (Some new) i h lt e) [
            | inl a ↦ let p : slots ≡ h.slots = cc in omega (arith, p, some_slots s m id slots parts offer)
            | inr a ↦ packed.each_slots i h a.1
          ];
      latest = packed.latest;
      among = packed.among;
      within = omega (arith, right, packed.within);
    }

-- the slots of an outstanding chain are among those of all
slots_among : (xs : List (Option OutstandingChain)) (i : ℕ) (c : OutstandingChain) → get_or xs i None ≡ Some c → c.slots ≤ sum_by slots_of xs
slots_among [] i c e = absurd (cc)
slots_among (x ∷ xs) zero c e = let p : x ≡ Some c = e in omega (arith, sum_by-cons slots_of x xs, ap slots_of p)
slots_among (x ∷ xs) (suc i) c e = omega (arith, sum_by-cons slots_of x xs, slots_among xs i c e)

-- using a chain that it owns keeps what is true of it
pub packed-use : (s : RingState) (c : PlainChain) → IsPacked s → IsSound s → Owns s c → IsPacked (using s c)
packed-use s c packed sound owns =
    let few : c.slots ≤ sum_by slots_of s.outstanding = slots_among s.outstanding c.id _ owns.outstanding in
    let lt : c.id < length s.outstanding = is_within s c.id _ owns.outstanding in
    record {
      form = packed.form;
      some = packed.some;
      most = packed.most;
      ids = omega (arith, packed.ids, length-set s.outstanding c.id None);
      slots = packed.slots;
      driver = packed.driver;
      device = packed.device;
      small = packed.small;
      each_slots = λ i h e.
          elim (at_set s.outstanding c.id None i h lt e) [
            | inl a ↦ absurd (cc)
            | inr a ↦ packed.each_slots i h a.1
          ];
      latest = omega (arith, few, sound.slots_counted, packed.within);
      among = omega arith;
      within = omega (arith, packed.within);
    }

-- no more are outstanding than the ring has slots
pub packed-few : (s : RingState) → IsPacked s → IsSound s → outstanding_count s ≤ s.layout.size
packed-few s packed sound =
    omega (arith, few_by_slots s.outstanding packed.each_slots, sound.slots_counted, packed.within)
