-- What a queue offers as a chain is right.
use Rattle.std.proofs.Common.{◌≡◌, ℕ, zero, suc, ◌+◌, ◌-◌, ◌<◌, ◌≤◌, ◌/◌, List, [], ◌∷◌, ◌++◌, length, Bool, true, false, ◌||◌, Option, Some, None, refl, sym, ap, ◌∙◌, arith, map, ◌⊎◌, inl, inr, length-append}
use Rattle.std.proofs.lemmas.Bool.Decides.{nat_tests}
use Rattle.std.proofs.lemmas.Grind.{common_steps}
use Rattle.std.proofs.lemmas.List.{map-append, length-map}
use Rattle.std.proofs.lemmas.List.Folds.{list_any-append}
use Rattle.std.specs.List.{list_any}
use Rattle.std.specs.Prelude.{slice_get}
use Rattle.ring_core.specs.State.{RingState, no_features}
use Rattle.ring_core.specs.Walk.{nothing_before, goes_on, is_writable, is_indirect, part_of, amount, front, first_of, buffer_tests, table_wrong, Sequence, LeadsTo, IsRun, EndsIn, IsChain}
use Rattle.ring_core.specs.RightChain.{IsRightChain}
use Rattle.ring_core.specs.Split.{split_path, split_table, next_head, entry_wrong, split_wrong}
use Rattle.ring_core.specs.Packed.{packed_slots, packed_table, packed_wrong, available_place}
use Rattle.ring_core.specs.Offer.{Offers, OffersUnless, OffersInForm, Found}
use Rattle.ring_core.specs.declared.layout.Features.{Features}
use Rattle.ring_core.specs.declared.layout.Layout.{Layout}
use Rattle.ring_core.specs.declared.descriptor.Part.{Part}
use Rattle.ring_core.specs.declared.descriptor.Descriptor.{Descriptor}
use Rattle.ring_core.specs.declared.before.Before.{Before}
use Rattle.ring_core.specs.declared.fault.RingFault.{RingFault}
use Rattle.ring_core.specs.declared.layout.Form.{Form}
use Rattle.ring_core.specs.declared.layout.Form.TheVariants.{Split, Packed}
use Rattle.ring_core.proofs.Along.{run_last}
use Rattle.ring_core.proofs.Exact.{not_both}
use Rattle.ring_core.proofs.Exists.{length-front, Ends, split_ends, packed_ends}
use Rattle.ring_core.proofs.Fitting.{AllTested, tested_fit}
use Rattle.ring_core.proofs.Joined.{joined, front_high, tests_low, tests_high}
use Rattle.ring_core.proofs.Sound.{at_push}

pub less_or_same : (k n : ℕ) → k < suc n → (k < n) ⊎ (k ≡ n)
less_or_same k n lt = grind arith

pub less_or_more : (a b : ℕ) → (a < b) ⊎ (b ≤ a)
less_or_more a b = grind arith

or_true : (a b : Bool) → b ≡ true → (a || b) ≡ true
or_true true b e = refl
or_true false b e = e

-- what follows from a descriptor's tests
stays_writable : (memory : ℕ) (b : Before) (d : Descriptor) → first_of (buffer_tests memory b d) ≡ None → b.writable ≡ true → is_writable d ≡ true
stays_writable memory b d e w = grind (arith, common_steps)

split_tested : (features : Features) (memory size : ℕ) (b : Before) (d : Descriptor) → split_wrong features memory size b d ≡ None → is_indirect d ≡ false → first_of (buffer_tests memory b d) ≡ None
split_tested features memory size b d e direct = grind (arith, common_steps)

packed_tested : (features : Features) (memory size : ℕ) (b : Before) (d : Descriptor) → packed_wrong features memory size b d ≡ None → is_indirect d ≡ false → first_of (buffer_tests memory b d) ≡ None
packed_tested features memory size b d e direct = grind (arith, common_steps)

-- what follows where a descriptor names a table rightly
table_last : (features : Features) (memory : ℕ) (d : Descriptor) → table_wrong features memory d ≡ None → goes_on d ≡ false
table_last features memory d e = grind (arith, common_steps)

table_agreed : (features : Features) (memory : ℕ) (d : Descriptor) → table_wrong features memory d ≡ None → features.indirect_descriptors ≡ true
table_agreed features memory d e = grind (arith, common_steps)

pub split_names : (features : Features) (memory size : ℕ) (b : Before) (d : Descriptor) → split_wrong features memory size b d ≡ None → is_indirect d ≡ true → table_wrong features memory d ≡ None
split_names features memory size b d e tabled = grind (arith, common_steps)

pub packed_names : (features : Features) (memory size : ℕ) (b : Before) (d : Descriptor) → packed_wrong features memory size b d ≡ None → is_indirect d ≡ true → table_wrong features memory d ≡ None
packed_names features memory size b d e tabled = grind (arith, common_steps)

one_of_two : (b : Bool) → (b ≡ true) ⊎ (b ≡ false)
one_of_two true = inl refl
one_of_two false = inr refl

pub split_direct : (features : Features) (memory size : ℕ) (b : Before) (d : Descriptor) → split_wrong features memory size b d ≡ None → goes_on d ≡ true → is_indirect d ≡ false
split_direct features memory size b d e more =
    elim (one_of_two (is_indirect d)) [
      | inl tabled ↦ absurd (not_both (goes_on d) more (table_last features memory d (split_names features memory size b d e tabled)))
      | inr plain ↦ plain
    ]

pub packed_direct : (features : Features) (memory size : ℕ) (b : Before) (d : Descriptor) → packed_wrong features memory size b d ≡ None → goes_on d ≡ true → is_indirect d ≡ false
packed_direct features memory size b d e more =
    elim (one_of_two (is_indirect d)) [
      | inl tabled ↦ absurd (not_both (goes_on d) more (table_last features memory d (packed_names features memory size b d e tabled)))
      | inr plain ↦ plain
    ]

-- where no tables were agreed none is named
pub split_none : (memory size : ℕ) (b : Before) (d : Descriptor) → split_wrong no_features memory size b d ≡ None → is_indirect d ≡ false
split_none memory size b d e =
    elim (one_of_two (is_indirect d)) [
      | inl tabled ↦ absurd (let p : false ≡ true = table_agreed no_features memory d (split_names no_features memory size b d e tabled) in cc)
      | inr plain ↦ plain
    ]

right_head : (s : RingState) (m : List ℕ) → entry_wrong s m ≡ None → next_head s m < s.layout.size
right_head s m e = grind (arith, common_steps, nat_tests)

-- what a sequence tests: the buffers of all but one that names a table, past which it doesn't go on
pub record Tests (memory : ℕ) (s : Sequence) : Type 0 where
  pub tested : (b : Before) (d : Descriptor) → s.wrong b d ≡ None → is_indirect d ≡ false → first_of (buffer_tests memory b d) ≡ None
  pub direct : (b : Before) (d : Descriptor) → s.wrong b d ≡ None → s.on b d ≡ true → is_indirect d ≡ false

-- and where all have buffers
abbrev pub TestsAll : ℕ → Sequence → Type 0
TestsAll memory s = (b : Before) (d : Descriptor) → s.wrong b d ≡ None → first_of (buffer_tests memory b d) ≡ None

pub split_tests : (features : Features) (m : List ℕ) (table size head : ℕ) → Tests (length m) (split_path features m table size head)
split_tests features m table size head =
    record {
      tested = λ b d e plain. split_tested features (length m) size b d e plain;
      direct = λ b d e more. split_direct features (length m) size b d e more;
    }

pub split_table_tests : (m : List ℕ) (x : Descriptor) → TestsAll (length m) (split_table m x)
split_table_tests m x b d e = split_tested no_features (length m) (x.len / 16) b d e (split_none (length m) (x.len / 16) b d e)

pub packed_tests : (features : Features) (m : List ℕ) (l : Layout) (t : ℕ) → Tests (length m) (packed_slots features m l t)
packed_tests features m l t =
    record {
      tested = λ b d e plain. packed_tested features (length m) l.size b d e plain;
      direct = λ b d e more. packed_direct features (length m) l.size b d e more;
    }

pub packed_table_tests : (m : List ℕ) (x : Descriptor) → TestsAll (length m) (packed_table m x)
packed_table_tests m x b d e = e

-- In any sequence of descriptors:
module _ (at : ℕ → Descriptor) where
  -- one that is writable is among those before a later one
  writable_before : (j k : ℕ) → j < k → is_writable (at j) ≡ true → list_any is_writable (front at k) ≡ true
  unfolding front
  writable_before j zero lt w = absurd (omega arith)
  writable_before j (suc k) lt w =
      list_any-append is_writable (front at k) (at k ∷ [])
      ∙ elim (less_or_same j k lt) [
        | inl below ↦ rw (writable_before j k below w) refl
        | inr same ↦ let e : is_writable (at k) ≡ true = ap (λ (i : ℕ). is_writable (at i)) (sym same) ∙ w in grind (arith, common_steps)
      ]

  -- the part at an index is that of the descriptor there
  part_at : (n k : ℕ) (p : Part) → slice_get (map part_of (front at n)) k ≡ Some p → (k < n) × (p ≡ part_of (at k))
  unfolding front
  part_at zero k p e = absurd (cc)
  part_at (suc n) k p e =
      let split : map part_of (front at (suc n)) ≡ map part_of (front at n) ++ part_of (at n) ∷ [] = map-append part_of (front at n) (at n ∷ []) in
      let long : length (map part_of (front at n)) ≡ n = length-map (front at n) part_of ∙ length-front at n in
      elim (at_push (map part_of (front at n)) (part_of (at n)) k p (sym (ap (λ (ps : List Part). slice_get ps k) split) ∙ e)) [
        | inl earlier ↦ (omega (arith, (part_at n k p earlier).0), (part_at n k p earlier).1)
        | inr last ↦ (omega (arith, last.0, long), last.1 ∙ ap (λ (i : ℕ). part_of (at i)) (sym (last.0 ∙ long)))
      ]

-- Where the buffers of a sequence were tested:
module _ (memory : ℕ) (at : ℕ → Descriptor) (n : ℕ) (fine : AllTested memory at (suc n)) where
  writable_last : (j k : ℕ) → j < k → k < suc n → is_writable (at j) ≡ true → is_writable (at k) ≡ true
  writable_last j k lt le w =
      stays_writable memory (amount nothing_before (front at k)) (at k) (fine k le)
      (or_true false (list_any is_writable (front at k)) (writable_before at j k lt w))

  pub tested_right : IsRightChain memory (map part_of (front at (suc n)))
  tested_right =
      let long : length (map part_of (front at (suc n))) ≡ suc n = length-map (front at (suc n)) part_of ∙ length-front at (suc n) in
      record {
        fit = tested_fit memory at n fine;
        some = omega (arith, long);
        in_order = λ j k p q lt is_p is_q w.
            let at_p = part_at at (suc n) j p is_p in
            let at_q = part_at at (suc n) k q is_q in
            ap (λ (x : Part). x.writable) at_q.1 ∙ writable_last j k lt at_q.0 (sym (ap (λ (x : Part). x.writable) at_p.1) ∙ w);
      }

-- Of a chain of two runs:
module _ (memory : ℕ) (ring : Sequence) (table : Descriptor → Sequence) (tests : Tests memory ring) (all : (x : Descriptor) → TestsAll memory (table x)) where
  -- its buffers are a sequence
  abbrev AreTested : List Part → Type 0
  AreTested parts = (at : ℕ → Descriptor) × (n : ℕ) × AllTested memory at (suc n) × (parts ≡ map part_of (front at (suc n)))

  led : (n : ℕ) → LeadsTo ring nothing_before n → AllTested memory ring.at n
  unfolding LeadsTo
  led n leads k lt =
      tests.tested (amount nothing_before (front ring.at k)) (ring.at k) (leads k lt).0
      (tests.direct (amount nothing_before (front ring.at k)) (ring.at k) (leads k lt).0 (leads k lt).1)

  within_table : (x : Descriptor) (first : Before) (k : ℕ) → LeadsTo (table x) first k → (table x).wrong (amount first (front (table x).at k)) ((table x).at k) ≡ None
      → (i : ℕ) → i < suc k → first_of (buffer_tests memory (amount first (front (table x).at i)) ((table x).at i)) ≡ None
  unfolding LeadsTo
  within_table x first k leads right i lt =
      elim (less_or_same i k lt) [
        | inl below ↦ all x (amount first (front (table x).at i)) ((table x).at i) (leads i below).0
        | inr same ↦ ap (λ (j : ℕ). first_of (buffer_tests memory (amount first (front (table x).at j)) ((table x).at j))) same ∙ all x (amount first (front (table x).at k)) ((table x).at k) right
      ]

  alone : (n : ℕ) → LeadsTo ring nothing_before n → ring.wrong (amount nothing_before (front ring.at n)) (ring.at n) ≡ None → is_indirect (ring.at n) ≡ false → AllTested memory ring.at (suc n)
  alone n leads right plain k lt =
      elim (less_or_same k n lt) [
        | inl below ↦ led n leads k below
        | inr same ↦ ap (λ (j : ℕ). first_of (buffer_tests memory (amount nothing_before (front ring.at j)) (ring.at j))) same ∙ tests.tested (amount nothing_before (front ring.at n)) (ring.at n) right plain
      ]

  both_tested : (n k : ℕ) (x : Descriptor) → LeadsTo ring nothing_before n → LeadsTo (table x) (amount nothing_before (front ring.at n)) k
      → (table x).wrong (amount (amount nothing_before (front ring.at n)) (front (table x).at k)) ((table x).at k) ≡ None
      → AllTested memory (joined n ring.at (table x).at) (suc (n + k))
  both_tested n k x leads leads2 right j lt =
      elim (less_or_more j n) [
        | inl below ↦ tests_low n ring.at (table x).at memory j below ∙ led n leads j below
        | inr more ↦
            let i : ℕ = j - n in
            let e : j ≡ n + i = omega arith in
            ap (λ (z : ℕ). first_of (buffer_tests memory (amount nothing_before (front (joined n ring.at (table x).at) z)) (joined n ring.at (table x).at z))) e
            ∙ tests_high n ring.at (table x).at memory i
            ∙ within_table x (amount nothing_before (front ring.at n)) k leads2 right i (omega arith)
      ]

  joined_parts : (n k : ℕ) (x : Descriptor) → front ring.at n ++ (front (table x).at k ++ (table x).at k ∷ []) ≡ front (joined n ring.at (table x).at) (suc (n + k))
  unfolding front
  joined_parts n k x =
      let e : n + suc k ≡ suc (n + k) = omega arith in
      sym (front_high n ring.at (table x).at (suc k)) ∙ ap (front (joined n ring.at (table x).at)) e

  ends_tested : (n : ℕ) (last : Descriptor) (ends : List Descriptor) → LeadsTo ring nothing_before n → ring.wrong (amount nothing_before (front ring.at n)) (ring.at n) ≡ None
      → last ≡ ring.at n → EndsIn table (amount nothing_before (front ring.at n)) last ends → AreTested (map part_of (front ring.at n ++ ends))
  unfolding IsRun front
  ends_tested n last ends leads right end (inl (plain, is)) =
      (ring.at, n, alone n leads right (sym (ap is_indirect end) ∙ plain), ap (λ (zs : List Descriptor). map part_of (front ring.at n ++ zs)) is ∙ ap (λ (z : Descriptor). map part_of (front ring.at n ++ z ∷ [])) end)
  ends_tested n last ends leads right end (inr (tabled, (inner, final, (k, leads2, right2, off2, is_inner, is_final), is))) = (
    joined n ring.at (table last).at,
    n + k,
    both_tested n k last leads leads2 right2,
    ap (λ (zs : List Descriptor). map part_of (front ring.at n ++ zs)) (is ∙ ap (λ (zs : List Descriptor). zs ++ final ∷ []) is_inner ∙ ap (λ (z : Descriptor). front (table last).at k ++ z ∷ []) is_final)
        ∙ ap (map part_of) (joined_parts n k last),
  )

  chain_tested : (direct : List Descriptor) (last : Descriptor) (parts : List Part) → IsChain ring table direct last parts → AreTested parts
  unfolding IsRun
  chain_tested direct last parts ((n, leads, right, off, is, end), (ends, are, parts_are)) =
      let here : EndsIn table (amount nothing_before (front ring.at n)) last ends = rw is at are in
      let t = ends_tested n last ends leads right end here in
      (t.0, t.1, t.2, parts_are ∙ ap (λ (zs : List Descriptor). map part_of (zs ++ ends)) is ∙ t.3)

  pub chain_right : (direct : List Descriptor) (last : Descriptor) (parts : List Part) → IsChain ring table direct last parts → IsRightChain memory parts
  chain_right direct last parts chain =
      let t = chain_tested direct last parts chain in
      rw t.3 (tested_right memory t.0 t.1 t.2)

-- A run is no longer than where it has to end
module _ (s : Sequence) (first : Before) (size : ℕ) (ends : Ends s size) where
  not_too_long : (n : ℕ) → 1 ≤ size → LeadsTo s first n → suc n ≤ size
  unfolding LeadsTo
  not_too_long zero some leads = some
  not_too_long (suc n) some leads =
      let step = leads n (omega arith) in
      elim (less_or_more (suc n) size) [
        | inl lt ↦ omega arith
        | inr le ↦ absurd (ends (amount first (front s.at n)) (s.at n) (omega (arith, length-front s.at n, le)) step.0 step.1)
      ]

  pub run_few : (direct : List Descriptor) (last : Descriptor) → 1 ≤ size → IsRun s first direct last → length direct + 1 ≤ size
  unfolding IsRun
  run_few direct last some (n, leads, right, off, is, end) = omega (arith, ap length is ∙ length-front s.at n, not_too_long n some leads)

-- a chain whose last descriptor in the ring names no table has as many parts as descriptors there
pub direct_count : (ring : Sequence) (table : Descriptor → Sequence) (direct : List Descriptor) (last : Descriptor) (parts : List Part)
    → IsChain ring table direct last parts → (is_indirect last ≡ true → ⊥) → length parts ≡ length direct + 1
direct_count ring table direct last parts (run, (ends, inl (plain, is), are)) none =
    omega (arith, ap length are, length-map (direct ++ ends) part_of, ap (λ (zs : List Descriptor). length (direct ++ zs)) is, length-append direct (last ∷ []))
direct_count ring table direct last parts (run, (ends, inr (tabled, r), are)) none = absurd (none tabled)

module _ (s : RingState) (m : List ℕ) where
  abbrev Path : Sequence
  Path = split_path s.features m s.layout.desc s.layout.size (next_head s m)

  abbrev Slots : Sequence
  Slots = packed_slots s.features m s.layout (available_place s)

  in_form_right : (form : Form) (id slots : ℕ) (parts : List Part) → OffersInForm form s m (Found id slots parts) → IsRightChain (length m) parts
  in_form_right Split id slots parts (there, fine, is, one, (direct, last, chain)) =
      chain_right (length m) Path (split_table m) (split_tests s.features m s.layout.desc s.layout.size (next_head s m)) (split_table_tests m) direct last parts chain
  in_form_right Packed id slots parts (there, (direct, last, chain, is, count), fine) =
      chain_right (length m) Slots (packed_table m) (packed_tests s.features m s.layout (available_place s)) (packed_table_tests m) direct last parts chain

  packed_few : (direct : List Descriptor) (last : Descriptor) (parts : List Part) → 1 ≤ s.layout.size → IsChain Slots (packed_table m) direct last parts → length direct + 1 ≤ s.layout.size
  packed_few direct last parts some chain = run_few Slots nothing_before s.layout.size (packed_ends s m (available_place s)) direct last some chain.0

  split_few : (direct : List Descriptor) (last : Descriptor) (parts : List Part) → 1 ≤ s.layout.size → IsChain Path (split_table m) direct last parts → length direct + 1 ≤ s.layout.size
  split_few direct last parts some chain =
      run_few Path nothing_before s.layout.size (split_ends s.features m s.layout.desc s.layout.size (next_head s m)) direct last some chain.0

  in_form_slots : (form : Form) (id slots : ℕ) (parts : List Part) → OffersInForm form s m (Found id slots parts) → 1 ≤ s.layout.size → slots ≤ s.layout.size
  in_form_slots Split id slots parts (there, fine, is, one, chain) some = omega (arith, one, some)
  in_form_slots Packed id slots parts (there, (direct, last, chain, is, count), fine) some = omega (arith, count, packed_few direct last parts some chain)

  in_form_few : (form : Form) (id slots : ℕ) (parts : List Part) → OffersInForm form s m (Found id slots parts) → 1 ≤ s.layout.size → s.features.indirect_descriptors ≡ false → length parts ≤ s.layout.size
  in_form_few Split id slots parts (there, fine, is, one, (direct, last, chain)) some none =
      omega (
        arith,
        split_few direct last parts some chain,
        direct_count Path (split_table m) direct last parts chain (λ tabled.
            not_both s.features.indirect_descriptors (table_agreed s.features (length m) last (split_names s.features (length m) s.layout.size (amount nothing_before direct) last (run_last Path nothing_before direct last chain.0).0 tabled)) none),
      )
  in_form_few Packed id slots parts (there, (direct, last, chain, is, count), fine) some none =
      omega (
        arith,
        packed_few direct last parts some chain,
        direct_count Slots (packed_table m) direct last parts chain (λ tabled.
            not_both s.features.indirect_descriptors (table_agreed s.features (length m) last (packed_names s.features (length m) s.layout.size (amount nothing_before direct) last (run_last Slots nothing_before direct last chain.0).0 tabled)) none),
      )

  unless_right : (broken : Option RingFault) (id slots : ℕ) (parts : List Part) → OffersUnless broken s m (Found id slots parts) → IsRightChain (length m) parts
  unless_right (Some f) id slots parts o = absurd (cc)
  unless_right None id slots parts o = in_form_right s.form id slots parts o

  unless_slots : (broken : Option RingFault) (id slots : ℕ) (parts : List Part) → OffersUnless broken s m (Found id slots parts) → 1 ≤ s.layout.size → slots ≤ s.layout.size
  unless_slots (Some f) id slots parts o some = absurd (cc)
  unless_slots None id slots parts o some = in_form_slots s.form id slots parts o some

  unless_few : (broken : Option RingFault) (id slots : ℕ) (parts : List Part) → OffersUnless broken s m (Found id slots parts) → 1 ≤ s.layout.size → s.features.indirect_descriptors ≡ false → length parts ≤ s.layout.size
  unless_few (Some f) id slots parts o some none = absurd (cc)
  unless_few None id slots parts o some none = in_form_few s.form id slots parts o some none

pub offered_is_right : (s : RingState) (m : List ℕ) (id slots : ℕ) (parts : List Part) → Offers s m (Found id slots parts) → IsRightChain (length m) parts
offered_is_right s m id slots parts o = unless_right s m s.broken id slots parts o

pub offered_slots : (s : RingState) (m : List ℕ) (id slots : ℕ) (parts : List Part) → Offers s m (Found id slots parts) → 1 ≤ s.layout.size → slots ≤ s.layout.size
offered_slots s m id slots parts o some = unless_slots s m s.broken id slots parts o some

pub offered_few : (s : RingState) (m : List ℕ) (id slots : ℕ) (parts : List Part) → Offers s m (Found id slots parts) → 1 ≤ s.layout.size → s.features.indirect_descriptors ≡ false → length parts ≤ s.layout.size
offered_few s m id slots parts o some none = unless_few s m s.broken id slots parts o some none

in_form_head : (form : Form) (s : RingState) (m : List ℕ) (id slots : ℕ) (parts : List Part) → OffersInForm form s m (Found id slots parts) → form ≡ Split → id < s.layout.size
in_form_head Split s m id slots parts (there, fine, is, one, chain) split = rw is (right_head s m fine)
in_form_head Packed s m id slots parts o split = absurd (cc)

unless_head : (broken : Option RingFault) (s : RingState) (m : List ℕ) (id slots : ℕ) (parts : List Part) → OffersUnless broken s m (Found id slots parts) → s.form ≡ Split → id < s.layout.size
unless_head (Some f) s m id slots parts o split = absurd (cc)
unless_head None s m id slots parts o split = in_form_head s.form s m id slots parts o split

pub offered_head : (s : RingState) (m : List ℕ) (id slots : ℕ) (parts : List Part) → Offers s m (Found id slots parts) → s.form ≡ Split → id < s.layout.size
offered_head s m id slots parts o split = unless_head s.broken s m id slots parts o split
