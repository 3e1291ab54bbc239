-- A step along a sequence of descriptors.
use Rattle.std.proofs.Common.{◌≡◌, ℕ, zero, suc, ◌+◌, List, [], ◌∷◌, ◌++◌, length, Bool, true, false, Option, Some, None, refl, sym, ap, ◌∙◌, arith, map, below_more, add-one, length-append, ◌||◌, sum_by, append-nil, append_assoc}
use Rattle.std.proofs.lemmas.Grind.{common_steps}
use Rattle.std.proofs.lemmas.List.{map-append}
use Rattle.std.proofs.lemmas.List.Sums.{sum_by-append}
use Rattle.std.proofs.lemmas.List.Folds.{list_any-append}
use Rattle.std.specs.List.{list_any}
use Rattle.ring_core.specs.Walk.{is_writable, part_of, amount, front, Sequence, LeadsTo, IsRun, IsFault}
use Rattle.ring_core.specs.declared.descriptor.Part.{Part}
use Rattle.ring_core.specs.declared.descriptor.Descriptor.{Descriptor}
use Rattle.ring_core.specs.declared.before.Before.{Before}
use Rattle.ring_core.specs.declared.fault.RingFault.{RingFault}

pub or_assoc : (a b c : Bool) → (a || b) || c ≡ a || (b || c)
or_assoc true b c = refl
or_assoc false b c = refl

or_false : (a : Bool) → a || false ≡ a
or_false true = refl
or_false false = refl

-- what a descriptor adds to those before it
pub amount_more : (first : Before) (ds : List Descriptor) (d : Descriptor)
    → amount first (ds ++ d ∷ []) ≡ record { count = (amount first ds).count + 1; total = (amount first ds).total + d.len; writable = (amount first ds).writable || is_writable d }
amount_more first ds d =
    let a : length (ds ++ d ∷ []) ≡ length ds + 1 = length-append ds (d ∷ []) in
    let s : sum_by (λ (x : Descriptor). x.len) (ds ++ d ∷ []) ≡ sum_by (λ (x : Descriptor). x.len) ds + d.len = grind (arith, common_steps, sum_by-append) in
    let b : first.total + sum_by (λ (x : Descriptor). x.len) (ds ++ d ∷ []) ≡ first.total + sum_by (λ (x : Descriptor). x.len) ds + d.len = omega (arith, s) in
    let w : list_any is_writable (ds ++ d ∷ []) ≡ list_any is_writable ds || is_writable d = grind (arith, common_steps, list_any-append) in
    let e : first.writable || list_any is_writable (ds ++ d ∷ []) ≡ (first.writable || list_any is_writable ds) || is_writable d = ap (λ (x : Bool). first.writable || x) w ∙ sym (or_assoc first.writable (list_any is_writable ds) (is_writable d)) in
    cc

-- before the first of a run only what stood before the run counts
pub amount_none : (first : Before) → amount first [] ≡ record { count = 0; total = first.total; writable = first.writable }
amount_none first =
    let t : first.total + 0 ≡ first.total = omega arith in
    let w : first.writable || false ≡ first.writable = or_false first.writable in
    cc

-- Along any sequence of descriptors, behind these parts:
module _ (s : Sequence) (first : Before) (earlier : List Part) where
  -- where a walk stands after n descriptors
  pub record Along (n : ℕ) (before : Before) (parts : List Part) : Type 0 where
    pub leads : LeadsTo s first n
    pub amounts : before ≡ amount first (front s.at n)
    pub found : parts ≡ earlier ++ map part_of (front s.at n)

  pub along_start : Along 0 (amount first []) earlier
  unfolding LeadsTo front
  along_start = record { leads = λ k lt. absurd (omega arith); amounts = refl; found = sym (append-nil earlier) }

  module _ (n : ℕ) (b : Before) (parts : List Part) (d : Descriptor) (a : Along n b parts) (is : d ≡ s.at n) where
    known : (r : Option RingFault) → s.wrong b d ≡ r → s.wrong (amount first (front s.at n)) (s.at n) ≡ r
    known r e = let p = a.amounts in cc

    known_on : (r : Bool) → s.on b d ≡ r → s.on (amount first (front s.at n)) (s.at n) ≡ r
    known_on r e = let p = a.amounts in cc

    longer : parts ++ part_of d ∷ [] ≡ earlier ++ map part_of (front s.at (suc n))
    unfolding front
    longer = rw (map-append, a.found, is) (append_assoc earlier (map part_of (front s.at n)) (part_of (s.at n) ∷ []))

    pub along_more : s.wrong b d ≡ None → s.on b d ≡ true
        → Along (n + 1) (record { count = b.count + 1; total = b.total + d.len; writable = b.writable || is_writable d }) (parts ++ part_of d ∷ [])
    unfolding LeadsTo front
    along_more right more =
        record {
          leads = below_more _ _ a.leads (known None right, known_on true more);
          amounts = rw (add-one n) (let e = amount_more first (front s.at n) (s.at n) in let p = a.amounts in cc);
          found = rw add-one longer;
        }

    pub along_end : s.wrong b d ≡ None → s.on b d ≡ false → IsRun s first (front s.at n) d
    unfolding IsRun
    along_end right off = (n, a.leads, known None right, known_on false off, refl, is)

    pub along_wrong : (f : RingFault) → s.wrong b d ≡ Some f → IsFault s first f
    unfolding IsFault
    along_wrong f bad = (n, a.leads, known (Some f) bad)

-- A run along any sequence:
module _ (s : Sequence) (first : Before) where
  first_right : (n : ℕ) → LeadsTo s first n → s.wrong (amount first (front s.at n)) (s.at n) ≡ None → s.wrong (amount first []) (s.at 0) ≡ None
  unfolding LeadsTo front
  first_right zero leads right = right
  first_right (suc n) leads right = (leads 0 (omega arith)).0

  -- its first descriptor is right
  pub run_first : (direct : List Descriptor) (last : Descriptor) → IsRun s first direct last → s.wrong (amount first []) (s.at 0) ≡ None
  unfolding IsRun
  run_first direct last (n, leads, right, off, is, end) = first_right n leads right

  -- and where a walk stands
  pub along_first : (earlier : List Part) (n : ℕ) (b : Before) (parts : List Part) (d : Descriptor) → Along s first earlier n b parts → d ≡ s.at n → s.wrong b d ≡ None
      → s.wrong (amount first []) (s.at 0) ≡ None
  along_first earlier n b parts d a is right = first_right n a.leads (known s first earlier n b parts d a is None right)

  -- its last descriptor is right
  pub run_last : (direct : List Descriptor) (last : Descriptor) → IsRun s first direct last
      → (s.wrong (amount first direct) last ≡ None) × (s.on (amount first direct) last ≡ false)
  unfolding IsRun
  run_last direct last (n, leads, right, off, is, end) = (rw (is, end) right, rw (is, end) off)
