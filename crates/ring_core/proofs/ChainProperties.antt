-- The chains of either form are those with the properties.
use Rattle.std.proofs.Common.{◌≡◌, ◌≢◌, ℕ, zero, suc, ◌+◌, ◌-◌, ◌/◌, ◌%◌, ◌<◌, ◌≤◌, ◌^◌, List, [], ◌∷◌, ◌++◌, length, Bool, true, false, Some, None, refl, sym, ap, subst, ◌∙◌, arith, map, sum_by, get_or, ◌⊎◌, ◌||◌, inl, inr, add-one, nat_lt, length-append}
use Rattle.std.proofs.lemmas.Bool.Decides.{nat_tests}
use Rattle.std.proofs.lemmas.Grind.{common_steps}
use Rattle.std.proofs.lemmas.Option.{gets, same_Some}
use Rattle.std.proofs.lemmas.List.{map-append, length-map, ext_get_or}
use Rattle.std.proofs.lemmas.List.Folds.{list_any-append}
use Rattle.std.specs.List.{list_any}
use Rattle.std.specs.Prelude.{slice_get}
use Rattle.ring_core.specs.State.{no_features}
use Rattle.ring_core.specs.Walk.{nothing_before, goes_on, is_writable, is_indirect, part_of, amount, front, first_of, buffer_tests, table_wrong, Sequence, LeadsTo, IsRun, EndsIn, IsChain}
use Rattle.ring_core.specs.Parts.{inside}
use Rattle.ring_core.specs.RightChain.{IsRightChain}
use Rattle.ring_core.specs.Split.{in_table, number_on, path, split_path, split_table, split_wrong, SplitChain}
use Rattle.ring_core.specs.Packed.{slots_from, entry_of, packed_slots, packed_table, packed_wrong, PackedChain}
use Rattle.ring_core.specs.Table.{tabulated}
use Rattle.ring_core.specs.ChainProperties.{IsPath, AreDirect, parts_at, NamesTable, SplitParts, SplitChainProperties, IsRunOfSlots, AreDirectSlots, slot_parts, PackedParts, PackedChainProperties}
use Rattle.ring_core.specs.declared.layout.Features.{Features}
use Rattle.ring_core.specs.declared.descriptor.Part.{Part}
use Rattle.ring_core.specs.declared.descriptor.Descriptor.{Descriptor}
use Rattle.ring_core.specs.declared.before.Before.{Before}
use Rattle.ring_core.specs.declared.layout.Layout.{Layout}
use Rattle.ring_core.proofs.Exact.{not_both}
use Rattle.ring_core.proofs.Exists.{length-front, split_ends}
use Rattle.ring_core.proofs.Fitting.{AllTested, fit_sum, len_more}
use Rattle.ring_core.proofs.Joined.{joined, front_high, tests_low, tests_high}
use Rattle.ring_core.proofs.Tabulated.{length-tabulated, get_or-tabulated}
use Rattle.ring_core.proofs.RightChains.{less_or_same, split_names, packed_names, split_direct, packed_direct, split_none, split_tests, split_table_tests, packed_tests, packed_table_tests, chain_right, run_few}
use Rattle.ring_core.proofs.Walking.{packed_walk}

-- What stands at an index of a list:
there : {X : Type 0} (xs : List X) (k : ℕ) (d : X) → k < length xs → slice_get xs k ≡ Some (get_or xs k d)
there xs k d lt = grind (arith, common_steps, gets)

within : {X : Type 0} (xs : List X) (k : ℕ) (x : X) → slice_get xs k ≡ Some x → k < length xs
within xs k x e = grind (arith, common_steps, gets)

at_end : {X : Type 0} (xs : List X) (y : X) → slice_get (xs ++ y ∷ []) (length xs) ≡ Some y
at_end xs y = grind (arith, common_steps, gets)

before : (xs : List ℕ) (y k : ℕ) → k < length xs → slice_get (xs ++ y ∷ []) k ≡ Some (get_or xs k 0)
before xs y k lt = grind (arith, common_steps, gets)

tabulated_there : {X : Type 0} (f : ℕ → X) (n k : ℕ) → k < n → slice_get (tabulated f n) k ≡ Some (f k)
tabulated_there f n k lt =
    there (tabulated f n) k (f k) (omega (arith, length-tabulated f n, lt)) ∙ ap (λ x. Some x) (get_or-tabulated f n k (f k) lt)

tabulated_is : {X : Type 0} (f : ℕ → X) (n k : ℕ) (x : X) → slice_get (tabulated f n) k ≡ Some x → (k < n) × (x ≡ f k)
tabulated_is f n k x e =
    let lt : k < n = omega (arith, length-tabulated f n, within (tabulated f n) k x e) in
    (lt, same_Some x (f k) (sym e ∙ tabulated_there f n k lt))

or_cases : (a b : Bool) → (a || b) ≡ true → (a ≡ true) ⊎ (b ≡ true)
or_cases true b e = inl refl
or_cases false b e = inr e

one_writable : (ds : List Descriptor) (d : Descriptor) → list_any is_writable (ds ++ d ∷ []) ≡ true → (list_any is_writable ds ≡ true) ⊎ (is_writable d ≡ true)
one_writable ds d w =
    elim (or_cases (list_any is_writable ds) (list_any is_writable (d ∷ [])) (sym (list_any-append is_writable ds (d ∷ [])) ∙ w)) [
      | inl earlier ↦ inl earlier
      | inr here ↦ elim (or_cases (is_writable d) false here) [ inl this ↦ inr this | inr none ↦ absurd (cc) ]
    ]

-- nothing is wrong with a buffer that lies in memory, in its order, below the total
buffer_right : (memory : ℕ) (b : Before) (d : Descriptor) → inside memory (part_of d) ≡ true → (b.writable ≡ true → is_writable d ≡ true) → b.total + d.len ≤ 2 ^ 32
    → first_of (buffer_tests memory b d) ≡ None
buffer_right memory b d i w t = grind (arith, common_steps, nat_tests)

-- Along any sequence of descriptors, the first so many of which have right parts:
module _ (memory : ℕ) (at : ℕ → Descriptor) where
  part_there : (n k : ℕ) → k < n → slice_get (map part_of (front at n)) k ≡ Some (part_of (at k))
  unfolding front
  part_there zero k lt = absurd (omega arith)
  part_there (suc n) k lt =
      let long : length (map part_of (front at n)) ≡ n = length-map (front at n) part_of ∙ length-front at n in
      let split : map part_of (front at (suc n)) ≡ map part_of (front at n) ++ part_of (at n) ∷ [] = map-append part_of (front at n) (at n ∷ []) in
      ap (λ (ps : List Part). slice_get ps k) split
      ∙ elim (less_or_same k n lt) [
        | inl below ↦ earlier (map part_of (front at n)) (part_of (at n)) k _ (part_there n k below)
        | inr same ↦ ap (λ (i : ℕ). slice_get (map part_of (front at n) ++ part_of (at n) ∷ []) i) (same ∙ sym long) ∙ at_end (map part_of (front at n)) (part_of (at n)) ∙ ap (λ (i : ℕ). Some (part_of (at i))) (sym same)
      ]
    where
      earlier : (xs : List Part) (y : Part) (i : ℕ) (x : Part) → slice_get xs i ≡ Some x → slice_get (xs ++ y ∷ []) i ≡ Some x
      earlier xs y i x e = grind (arith, common_steps, gets)

  sum_below : (k n : ℕ) → k ≤ n → sum_by (λ (x : Descriptor). x.len) (front at k) ≤ sum_by (λ (x : Descriptor). x.len) (front at n)
  unfolding front
  sum_below k zero le = let e : k ≡ 0 = omega arith in rw e (omega arith)
  sum_below k (suc n) le =
      elim (below_or_same k n le) [
        | inl below ↦ omega (arith, sum_below k n below, len_more (front at n) (at n))
        | inr same ↦ rw same (omega arith)
      ]
    where
      below_or_same : (k n : ℕ) → k ≤ suc n → (k ≤ n) ⊎ (k ≡ suc n)
      below_or_same k n le = grind arith

  -- a writable one among the first ones
  some_writable : (k : ℕ) → list_any is_writable (front at k) ≡ true → (j : ℕ) × (j < k) × (is_writable (at j) ≡ true)
  unfolding front
  some_writable zero w = absurd (cc)
  some_writable (suc k) w =
      elim (one_writable (front at k) (at k) w) [
        | inl earlier ↦ let r = some_writable k earlier in (r.0, omega (arith, r.1), r.2)
        | inr here ↦ (k, omega arith, here)
      ]

  module _ (n : ℕ) (right : IsRightChain memory (map part_of (front at n))) where
    buffers : AllTested memory at n
    unfolding front
    buffers k lt =
        let long : length (map part_of (front at n)) ≡ n = length-map (front at n) part_of ∙ length-front at n in
        let here : get_or (map part_of (front at n)) k (part_of (at k)) ≡ part_of (at k) = same_Some _ _ (sym (there (map part_of (front at n)) k (part_of (at k)) (omega (arith, long))) ∙ part_there n k lt) in
        let i : inside memory (part_of (at k)) ≡ true = sym (ap (inside memory) here) ∙ right.fit.inside k (part_of (at k)) (omega (arith, long)) in
        let t : (amount nothing_before (front at k)).total + (at k).len ≤ 2 ^ 32 =
        omega (arith, right.fit.total, fit_sum at n, sum_below (suc k) n (omega arith), len_more (front at k) (at k)) in
        buffer_right memory (amount nothing_before (front at k)) (at k) i
        (λ w.
        let j = some_writable k w in
        right.in_order j.0 k (part_of (at j.0)) (part_of (at k)) j.1 (part_there n j.0 (omega (arith, j.1))) (part_there n k lt) j.2)
        t

-- what follows where nothing is wrong
split_next : (features : Features) (memory size : ℕ) (b : Before) (d : Descriptor) → split_wrong features memory size b d ≡ None → goes_on d ≡ true → d.next_or_id < size
split_next features memory size b d e on = grind (arith, common_steps, nat_tests)

names_agreed : (features : Features) (memory : ℕ) (d : Descriptor) → table_wrong features memory d ≡ None → features.indirect_descriptors ≡ true
names_agreed features memory d e = grind (arith, common_steps)

names_some : (features : Features) (memory : ℕ) (d : Descriptor) → table_wrong features memory d ≡ None → d.len ≢ 0
names_some features memory d e = λ z. grind (arith, common_steps, nat_tests)

names_whole : (features : Features) (memory : ℕ) (d : Descriptor) → table_wrong features memory d ≡ None → d.len % 16 ≡ 0
names_whole features memory d e = grind (arith, common_steps, nat_tests)

names_inside : (features : Features) (memory : ℕ) (d : Descriptor) → table_wrong features memory d ≡ None → d.addr + d.len ≤ memory
names_inside features memory d e = grind (arith, common_steps, nat_tests)

pub names_table : (features : Features) (m : List ℕ) (d : Descriptor) → table_wrong features (length m) d ≡ None → is_indirect d ≡ true → NamesTable features m d
names_table features m d e tabled =
    record {
      agreed = names_agreed features (length m) d e;
      named = tabled;
      some = names_some features (length m) d e;
      whole = names_whole features (length m) d e;
      inside = names_inside features (length m) d e;
    }

pub some_entry : (len : ℕ) → len ≢ 0 → len % 16 ≡ 0 → 1 ≤ len / 16
some_entry len some whole = grind arith

-- and where nothing is
split_right : (features : Features) (memory size : ℕ) (b : Before) (d : Descriptor) → is_indirect d ≡ false → first_of (buffer_tests memory b d) ≡ None
    → (goes_on d ≡ true → (d.next_or_id < size) × (b.count + 1 < size)) → split_wrong features memory size b d ≡ None
split_right features memory size b d direct buffer more = grind (arith, common_steps, nat_tests)

packed_right : (features : Features) (memory size : ℕ) (b : Before) (d : Descriptor) → is_indirect d ≡ false → first_of (buffer_tests memory b d) ≡ None
    → (goes_on d ≡ true → b.count + 1 < size) → packed_wrong features memory size b d ≡ None
packed_right features memory size b d direct buffer more = grind (arith, common_steps, nat_tests)

table_right : (features : Features) (memory : ℕ) (d : Descriptor) → features.indirect_descriptors ≡ true → d.len ≢ 0 → d.len % 16 ≡ 0 → d.addr + d.len ≤ memory → goes_on d ≡ false
    → table_wrong features memory d ≡ None
table_right features memory d agreed some whole inside last = grind (arith, common_steps, nat_tests)

split_named : (features : Features) (memory size : ℕ) (b : Before) (d : Descriptor) → is_indirect d ≡ true → table_wrong features memory d ≡ None → split_wrong features memory size b d ≡ None
split_named features memory size b d tabled right = grind (arith, common_steps)

packed_named : (features : Features) (memory size : ℕ) (b : Before) (d : Descriptor) → is_indirect d ≡ true → table_wrong features memory d ≡ None → packed_wrong features memory size b d ≡ None
packed_named features memory size b d tabled right = grind (arith, common_steps)

tab_front : (at : ℕ → Descriptor) (n : ℕ) → tabulated (λ (k : ℕ). part_of (at k)) n ≡ map part_of (front at n)
unfolding tabulated front
tab_front at zero = refl
tab_front at (suc n) = ap (λ (ps : List Part). ps ++ part_of (at n) ∷ []) (tab_front at n) ∙ sym (map-append part_of (front at n) (at n ∷ []))

-- the parts of two sequences one behind the other
both_parts : (n k : ℕ) (at more : ℕ → Descriptor) → map part_of (front at n) ++ map part_of (front more (suc k)) ≡ map part_of (front (joined n at more) (suc (n + k)))
both_parts n k at more =
    let e : n + suc k ≡ suc (n + k) = omega arith in
    sym (map-append part_of (front at n) (front more (suc k))) ∙ ap (map part_of) (sym (front_high n at more (suc k)) ∙ ap (front (joined n at more)) e)

-- a run along a path:
module _ (features : Features) (first : Before) (m : List ℕ) (table size head : ℕ) where
  abbrev Along_it : Sequence
  Along_it = split_path features m table size head

  numbers_parts : (n : ℕ) → parts_at m table (tabulated (number_on m table head) n) ≡ map part_of (front (path m table head) n)
  unfolding tabulated front
  numbers_parts zero = refl
  numbers_parts (suc n) =
      map-append (λ (i : ℕ). part_of (in_table m table i)) (tabulated (number_on m table head) n) (number_on m table head n ∷ [])
      ∙ ap (λ (ps : List Part). ps ++ part_of (path m table head n) ∷ []) (numbers_parts n)
      ∙ sym (map-append part_of (front (path m table head) n) (path m table head n ∷ []))

  numbers_path : (n : ℕ) → head < size → suc n ≤ size → LeadsTo Along_it first n → goes_on (path m table head n) ≡ false
      → IsPath m table size head (tabulated (number_on m table head) (suc n))
  unfolding LeadsTo number_on
  numbers_path n lt few leads off =
      record {
        first = tabulated_there (number_on m table head) (suc n) 0 (omega arith);
        most = omega (arith, few, length-tabulated (number_on m table head) (suc n));
        onward = λ k i j at_k at_more.
            let is_k = tabulated_is (number_on m table head) (suc n) k i at_k in
            let is_more = tabulated_is (number_on m table head) (suc n) (suc k) j (rw add-one at at_more) in
            rw is_k.1 ((leads k (omega (arith, is_more.0))).1, is_more.1);
        last = λ k i at_k end.
            let is_k = tabulated_is (number_on m table head) (suc n) k i at_k in
            let same : k ≡ n = omega (arith, end, length-tabulated (number_on m table head) (suc n)) in
            rw (is_k.1, same) off;
        below = λ k i at_k. let is_k = tabulated_is (number_on m table head) (suc n) k i at_k in rw is_k.1 (in_range k is_k.0);
      }
    where
      in_range : (k : ℕ) → k < suc n → number_on m table head k < size
      in_range zero le = lt
      in_range (suc k) le = split_next features (length m) size (amount first (front (path m table head) k)) (path m table head k) (leads k (omega arith)).0 (leads k (omega arith)).1

  leads_direct : (n : ℕ) → LeadsTo Along_it first n → (k : ℕ) → k < n → is_indirect (path m table head k) ≡ false
  unfolding LeadsTo
  leads_direct n leads k lt = split_direct features (length m) size (amount first (front (path m table head) k)) (path m table head k) (leads k lt).0 (leads k lt).1

  are_direct : (n : ℕ) → ((k : ℕ) → k < n → is_indirect (path m table head k) ≡ false) → AreDirect m table (tabulated (number_on m table head) n)
  are_direct n direct = λ k i at_k. let is_k = tabulated_is (number_on m table head) n k i at_k in rw is_k.1 (direct k is_k.0)

  module _ (numbers : List ℕ) (p : IsPath m table size head numbers) where
    number_there : (k : ℕ) → k < length numbers → slice_get numbers k ≡ Some (number_on m table head k)
    unfolding number_on
    number_there zero lt = p.first
    number_there (suc k) lt =
        let here = there numbers (suc k) 0 lt in
        let next = p.onward k (number_on m table head k) (get_or numbers (suc k) 0) (number_there k (omega arith)) (rw add-one here) in
        here ∙ ap (λ (i : ℕ). Some i) next.1

    numbers_are : numbers ≡ tabulated (number_on m table head) (length numbers)
    numbers_are =
        ext_get_or 0 numbers (tabulated (number_on m table head) (length numbers)) (sym (length-tabulated (number_on m table head) (length numbers)))
        (λ k lt.
        same_Some _ _ (sym (there numbers k 0 lt) ∙ number_there k lt) ∙ sym (get_or-tabulated (number_on m table head) (length numbers) k 0 lt))

    path_stops : (n : ℕ) → length numbers ≡ suc n → goes_on (path m table head n) ≡ false
    path_stops n long = p.last n (number_on m table head n) (number_there n (omega (arith, long))) (omega (arith, long))

    run_of : (n : ℕ) → length numbers ≡ suc n → ((k : ℕ) → k < n → is_indirect (path m table head k) ≡ false)
        → ((k : ℕ) → k < n → first_of (buffer_tests (length m) (amount first (front (path m table head) k)) (path m table head k)) ≡ None)
        → split_wrong features (length m) size (amount first (front (path m table head) n)) (path m table head n) ≡ None
        → IsRun Along_it first (front (path m table head) n) (path m table head n)
    unfolding IsRun LeadsTo number_on
    run_of n long direct fine right =
        let few : suc n ≤ size = omega (arith, p.most, long) in
        let number : (k : ℕ) → k < suc n → slice_get numbers k ≡ Some (number_on m table head k) = λ k lt. number_there k (omega (arith, long, lt)) in
        let onward : (k : ℕ) → k < n → goes_on (path m table head k) ≡ true =
        λ k lt.
        let more : slice_get numbers (k + 1) ≡ Some (number_on m table head (suc k)) = ap (slice_get numbers) (add-one k) ∙ number (suc k) (omega (arith, lt)) in
        (p.onward k (number_on m table head k) (number_on m table head (suc k)) (number k (omega (arith, lt))) more).0 in
        let next : (k : ℕ) → k < n → (path m table head k).next_or_id < size = λ k lt. p.below (suc k) (number_on m table head (suc k)) (number (suc k) (omega (arith, lt))) in
        let count : (k : ℕ) → (amount first (front (path m table head) k)).count ≡ k = length-front (path m table head) in
        let leads : LeadsTo Along_it first n =
        λ k lt. (
          split_right features (length m) size (amount first (front (path m table head) k)) (path m table head k) (direct k lt) (fine k lt) (λ on. (next k lt, omega (arith, count k, few, lt))),
          onward k lt,
        ) in
        (n, leads, right, path_stops n long, refl, refl)

-- A split chain:
module _ (features : Features) (m : List ℕ) (table size head : ℕ) where
  abbrev Ring : Sequence
  Ring = split_path features m table size head

  abbrev P : ℕ → Descriptor
  P = path m table head

  -- what it has where its run in the ring has n descriptors before the last
  parts_of_run : (n : ℕ) (ends : List Descriptor) → head < size → suc n ≤ size → LeadsTo Ring nothing_before n
      → split_wrong features (length m) size (amount nothing_before (front P n)) (P n) ≡ None → goes_on (P n) ≡ false
      → EndsIn (split_table m) (amount nothing_before (front P n)) (P n) ends → SplitParts features m table size head (map part_of (front P n ++ ends))
  unfolding tabulated front IsRun
  parts_of_run n ends lt few leads right off (inl (plain, is)) =
      let direct : (k : ℕ) → k < suc n → is_indirect (P k) ≡ false =
      λ k le. elim (less_or_same k n le) [ inl below ↦ leads_direct features nothing_before m table size head n leads k below | inr same ↦ ap (λ (j : ℕ). is_indirect (P j)) same ∙ plain ] in
      inl (
        tabulated (number_on m table head) (suc n),
        numbers_path features nothing_before m table size head n lt few leads off,
        are_direct features nothing_before m table size head (suc n) direct,
        ap (λ (ds : List Descriptor). map part_of (front P n ++ ds)) is ∙ sym (numbers_parts features nothing_before m table size head (suc n)),
      )
  parts_of_run n ends lt few leads right off (inr (tabled, (inner, final, (k, leads2, right2, off2, is_inner, is_final), is))) =
      let names : NamesTable features m (P n) = names_table features m (P n) (split_names features (length m) size (amount nothing_before (front P n)) (P n) right tabled) tabled in
      let some : 1 ≤ (P n).len / 16 = some_entry (P n).len names.some names.whole in
      let b : Before = amount nothing_before (front P n) in
      let Q : ℕ → Descriptor = path m (P n).addr 0 in
      let direct : (i : ℕ) → i < suc k → is_indirect (path m (P n).addr 0 i) ≡ false =
      λ i le.
      elim (less_or_same i k le) [
        | inl below ↦ leads_direct no_features b m (P n).addr ((P n).len / 16) 0 k leads2 i below
        | inr same ↦ ap (λ (j : ℕ). is_indirect (path m (P n).addr 0 j)) same ∙ split_none (length m) ((P n).len / 16) _ _ right2
      ] in
      let short : suc k ≤ (P n).len / 16 = omega (arith, length-front (path m (P n).addr 0) k, run_few (split_table m (P n)) b ((P n).len / 16) (split_ends no_features m (P n).addr ((P n).len / 16) 0) (front (path m (P n).addr 0) k) (path m (P n).addr 0 k) some (k, leads2, right2, off2, refl, refl)) in
      inr (
        tabulated (number_on m table head) n,
        number_on m table head n,
        numbers_path features nothing_before m table size head n lt few leads off,
        are_direct features nothing_before m table size head n (leads_direct features nothing_before m table size head n leads),
        names,
        (
          tabulated (number_on m (P n).addr 0) (suc k),
          numbers_path no_features b m (P n).addr ((P n).len / 16) 0 k some short leads2 off2,
          are_direct no_features b m (P n).addr ((P n).len / 16) 0 (suc k) direct,
          ap (λ (ds : List Descriptor). map part_of (front P n ++ ds)) (is ∙ ap (λ (ds : List Descriptor). ds ++ final ∷ []) is_inner ∙ ap (λ (d : Descriptor). front (path m (P n).addr 0) k ++ d ∷ []) is_final)
              ∙ map-append part_of (front P n) (front (path m (P n).addr 0) (suc k))
              ∙ ap (λ (ps : List Part). ps ++ map part_of (front (path m (P n).addr 0) (suc k))) (sym (numbers_parts features nothing_before m table size head n))
              ∙ ap (λ (ps : List Part). parts_at m table (tabulated (number_on m table head) n) ++ ps) (sym (numbers_parts no_features b m (P n).addr ((P n).len / 16) 0 (suc k))),
        ),
      )

  pub split_has : (parts : List Part) → head < size → SplitChain features m table size head parts → SplitChainProperties features m table size head parts
  unfolding IsRun
  split_has parts lt (direct, last, ((n, leads, right, off, is, end), (ends, are, parts_are))) =
      let few : suc n ≤ size =
      omega (arith, length-front P n, run_few Ring nothing_before size (split_ends features m table size head) (front P n) (P n) (omega (arith, lt)) (n, leads, right, off, refl, refl)) in
      let here : EndsIn (split_table m) (amount nothing_before (front P n)) last ends = subst (λ (ds : List Descriptor). EndsIn (split_table m) (amount nothing_before ds) last ends) is are in
      let there : EndsIn (split_table m) (amount nothing_before (front P n)) (P n) ends = subst (λ (d : Descriptor). EndsIn (split_table m) (amount nothing_before (front P n)) d ends) end here in
      let parts_is : parts ≡ map part_of (front P n ++ ends) = parts_are ∙ ap (λ (ds : List Descriptor). map part_of (ds ++ ends)) is in (
        subst (λ (ps : List Part). SplitParts features m table size head ps) (sym parts_is) (parts_of_run n ends lt few leads right off there),
        chain_right (length m) Ring (split_table m) (split_tests features m table size head) (split_table_tests m) direct last parts ((n, leads, right, off, is, end), (ends, are, parts_are)),
      )

  -- and the other way round
  direct_is : (numbers : List ℕ) (parts : List Part) → IsPath m table size head numbers → AreDirect m table numbers → parts ≡ parts_at m table numbers → IsRightChain (length m) parts
      → SplitChain features m table size head parts
  unfolding front
  direct_is numbers parts p direct are right =
      let n : ℕ = length numbers - 1 in
      let long : length numbers ≡ suc n = omega (arith, within numbers 0 head p.first) in
      let eq : numbers ≡ tabulated (number_on m table head) (suc n) = numbers_are features nothing_before m table size head numbers p ∙ ap (tabulated (number_on m table head)) long in
      let parts_is : parts ≡ map part_of (front P (suc n)) = are ∙ ap (parts_at m table) eq ∙ numbers_parts features nothing_before m table size head (suc n) in
      let fine : AllTested (length m) P (suc n) = buffers (length m) P (suc n) (rw parts_is at right) in
      let each : (k : ℕ) → k < suc n → is_indirect (P k) ≡ false = λ k lt. direct k (number_on m table head k) (number_there features nothing_before m table size head numbers p k (omega (arith, long, lt))) in
      let stops : goes_on (P n) ≡ false = path_stops features nothing_before m table size head numbers p n long in
      let last : split_wrong features (length m) size (amount nothing_before (front P n)) (P n) ≡ None =
      split_right features (length m) size (amount nothing_before (front P n)) (P n) (each n (omega arith)) (fine n (omega arith)) (λ on. absurd (not_both (goes_on (P n)) on stops)) in
      let run : IsRun Ring nothing_before (front P n) (P n) = run_of features nothing_before m table size head numbers p n long (λ k lt. each k (omega arith)) (λ k lt. fine k (omega arith)) last in
      (front P n, P n, (run, (P n ∷ [], inl (each n (omega arith), refl), parts_is)))

  table_is : (numbers : List ℕ) (i : ℕ) (entries : List ℕ) (parts : List Part) → IsPath m table size head (numbers ++ i ∷ []) → AreDirect m table numbers
      → NamesTable features m (in_table m table i) → IsPath m (in_table m table i).addr ((in_table m table i).len / 16) 0 entries → AreDirect m (in_table m table i).addr entries
      → parts ≡ parts_at m table numbers ++ parts_at m (in_table m table i).addr entries → IsRightChain (length m) parts
      → SplitChain features m table size head parts
  unfolding front
  table_is numbers i entries parts p direct names p2 direct2 are right =
      let n : ℕ = length numbers in
      let long : length (numbers ++ i ∷ []) ≡ suc n = omega (arith, length-append numbers (i ∷ [])) in
      let each_there : (k : ℕ) → k < suc n → slice_get (numbers ++ i ∷ []) k ≡ Some (number_on m table head k) = λ k lt. number_there features nothing_before m table size head (numbers ++ i ∷ []) p k (omega (arith, long, lt)) in
      let is_last : i ≡ number_on m table head n = same_Some _ _ (sym (at_end numbers i) ∙ each_there n (omega arith)) in
      let x : Descriptor = in_table m table i in
      let is_x : in_table m table i ≡ P n = ap (in_table m table) is_last in
      let numbers_is : numbers ≡ tabulated (number_on m table head) n =
      ext_get_or 0 numbers (tabulated (number_on m table head) n) (sym (length-tabulated (number_on m table head) n))
      (λ k lt. same_Some _ _ (sym (before numbers i k lt) ∙ each_there k (omega (arith, lt))) ∙ sym (get_or-tabulated (number_on m table head) n k 0 lt)) in
      let k : ℕ = length entries - 1 in
      let long2 : length entries ≡ suc k = omega (arith, within entries 0 0 p2.first) in
      let b : Before = amount nothing_before (front P n) in
      let eq2 : entries ≡ tabulated (number_on m (in_table m table i).addr 0) (suc k) = numbers_are no_features nothing_before m (in_table m table i).addr ((in_table m table i).len / 16) 0 entries p2 ∙ ap (tabulated (number_on m (in_table m table i).addr 0)) long2 in
      let Q : ℕ → Descriptor = path m (in_table m table i).addr 0 in
      let parts_is : parts ≡ map part_of (front P n) ++ map part_of (front (path m (in_table m table i).addr 0) (suc k)) =
      are ∙ ap (λ (ps : List Part). ps ++ parts_at m (in_table m table i).addr entries) (ap (parts_at m table) numbers_is ∙ numbers_parts features nothing_before m table size head n)
      ∙ ap (λ (ps : List Part). map part_of (front P n) ++ ps) (ap (parts_at m (in_table m table i).addr) eq2 ∙ numbers_parts no_features nothing_before m (in_table m table i).addr ((in_table m table i).len / 16) 0 (suc k)) in
      let whole : parts ≡ map part_of (front (joined n P (path m (in_table m table i).addr 0)) (suc (n + k))) = parts_is ∙ both_parts n k P (path m (in_table m table i).addr 0) in
      let fine : AllTested (length m) (joined n P (path m (in_table m table i).addr 0)) (suc (n + k)) = buffers (length m) (joined n P (path m (in_table m table i).addr 0)) (suc (n + k)) (rw whole at right) in
      let each : (j : ℕ) → j < n → is_indirect (P j) ≡ false =
      λ j lt. direct j (number_on m table head j) (there numbers j 0 lt ∙ ap (λ (z : ℕ). Some z) (same_Some _ _ (sym (before numbers i j lt) ∙ each_there j (omega (arith, lt))))) in
      let stops : goes_on (P n) ≡ false = path_stops features nothing_before m table size head (numbers ++ i ∷ []) p n long in
      let named : table_wrong features (length m) (P n) ≡ None = subst (λ (d : Descriptor). table_wrong features (length m) d ≡ None) is_x (table_right features (length m) (in_table m table i) names.agreed names.some names.whole names.inside (ap goes_on is_x ∙ stops)) in
      let tabled : is_indirect (P n) ≡ true = sym (ap is_indirect is_x) ∙ names.named in
      let last : split_wrong features (length m) size b (P n) ≡ None = split_named features (length m) size b (P n) tabled named in
      let run : IsRun Ring nothing_before (front P n) (P n) =
      run_of features nothing_before m table size head (numbers ++ i ∷ []) p n long each (λ j lt. sym (tests_low n P (path m (in_table m table i).addr 0) (length m) j lt) ∙ fine j (omega (arith, lt))) last in
      let each2 : (j : ℕ) → j < suc k → is_indirect (path m (in_table m table i).addr 0 j) ≡ false =
      λ j lt. direct2 j (number_on m (in_table m table i).addr 0 j) (number_there no_features nothing_before m (in_table m table i).addr ((in_table m table i).len / 16) 0 entries p2 j (omega (arith, long2, lt))) in
      let fine2 : (j : ℕ) → j < suc k → first_of (buffer_tests (length m) (amount b (front (path m (in_table m table i).addr 0) j)) (path m (in_table m table i).addr 0 j)) ≡ None =
      λ j lt. sym (tests_high n P (path m (in_table m table i).addr 0) (length m) j) ∙ fine (n + j) (omega (arith, lt)) in
      let stops2 : goes_on (path m (in_table m table i).addr 0 k) ≡ false = path_stops no_features nothing_before m (in_table m table i).addr ((in_table m table i).len / 16) 0 entries p2 k long2 in
      let last2 : split_wrong no_features (length m) ((in_table m table i).len / 16) (amount b (front (path m (in_table m table i).addr 0) k)) (path m (in_table m table i).addr 0 k) ≡ None =
      split_right no_features (length m) ((in_table m table i).len / 16) _ _ (each2 k (omega arith)) (fine2 k (omega arith)) (λ on. absurd (not_both (goes_on (path m (in_table m table i).addr 0 k)) on stops2)) in
      let run2 : IsRun (split_table m (in_table m table i)) b (front (path m (in_table m table i).addr 0) k) (path m (in_table m table i).addr 0 k) =
      run_of no_features b m (in_table m table i).addr ((in_table m table i).len / 16) 0 entries p2 k long2 (λ j lt. each2 j (omega arith)) (λ j lt. fine2 j (omega arith)) last2 in
      let ends : List Descriptor = front (path m (in_table m table i).addr 0) (suc k) in
      let joint : EndsIn (split_table m) b (in_table m table i) (front (path m (in_table m table i).addr 0) (suc k)) =
      inr (names.named, (front (path m (in_table m table i).addr 0) k, path m (in_table m table i).addr 0 k, run2, refl)) in
      (front P n, P n, (run, (front (path m (in_table m table i).addr 0) (suc k), subst (λ (d : Descriptor). EndsIn (split_table m) b d (front (path m (in_table m table i).addr 0) (suc k))) is_x joint, parts_is ∙ sym (map-append part_of (front P n) (front (path m (in_table m table i).addr 0) (suc k))))))

  pub split_is : (parts : List Part) → SplitChainProperties features m table size head parts → SplitChain features m table size head parts
  split_is parts (inl (numbers, p, direct, are), right) = direct_is numbers parts p direct are right
  split_is parts (inr (numbers, i, p, direct, names, (entries, p2, direct2, are)), right) = table_is numbers i entries parts p direct names p2 direct2 are right

-- how many entries a run over a packed table has: all
all_entries : (b len k : ℕ) → b ≡ k → nat_lt (b + 1) len ≡ false → (1 ≤ k → k < len) → 1 ≤ len → len ≡ suc k
all_entries b len k same off on some = counted (below (b + 1) len off) (one_or_more k)
  where
    below : (a c : ℕ) → nat_lt a c ≡ false → c ≤ a
    below a c e = grind (arith, nat_tests)

    one_or_more : (k : ℕ) → (k ≡ 0) ⊎ (1 ≤ k)
    one_or_more k = grind arith

    counted : len ≤ b + 1 → (k ≡ 0) ⊎ (1 ≤ k) → len ≡ suc k
    counted le (inl z) = omega (arith, le, z, same, some)
    counted le (inr one) = omega (arith, le, same, on one)

-- A packed chain:
module _ (features : Features) (m : List ℕ) (l : Layout) (t : ℕ) where
  abbrev Slots : Sequence
  Slots = packed_slots features m l t

  abbrev S : ℕ → Descriptor
  S = slots_from l m t

  slots_direct : (n : ℕ) → LeadsTo Slots nothing_before n → (k : ℕ) → k < n → is_indirect (S k) ≡ false
  unfolding LeadsTo
  slots_direct n leads k lt = packed_direct features (length m) l.size (amount nothing_before (front S k)) (S k) (leads k lt).0 (leads k lt).1

  slots_run : (n : ℕ) → 1 ≤ l.size → LeadsTo Slots nothing_before n → packed_wrong features (length m) l.size (amount nothing_before (front S n)) (S n) ≡ None → goes_on (S n) ≡ false → IsRunOfSlots m l t (suc n)
  unfolding LeadsTo IsRun
  slots_run n some leads right off =
      record {
        some = omega arith;
        most = omega (arith, length-front S n, run_few Slots nothing_before l.size (packed_walk features m l t).ends (front S n) (S n) some (n, leads, right, off, refl, refl));
        onward = λ k lt. (leads k (omega (arith, lt))).1;
        last = λ k e. let same : k ≡ n = omega (arith, e) in rw same off;
      }

  parts_of_slots : (n : ℕ) (ends : List Descriptor) → LeadsTo Slots nothing_before n
      → packed_wrong features (length m) l.size (amount nothing_before (front S n)) (S n) ≡ None
      → EndsIn (packed_table m) (amount nothing_before (front S n)) (S n) ends → PackedParts features m l t (suc n) (map part_of (front S n ++ ends))
  unfolding front IsRun LeadsTo
  parts_of_slots n ends leads right (inl (plain, is)) =
      inl (
        λ k le. elim (less_or_same k n le) [ inl below ↦ slots_direct n leads k below | inr same ↦ ap (λ (j : ℕ). is_indirect (S j)) same ∙ plain ],
        ap (λ (ds : List Descriptor). map part_of (front S n ++ ds)) is ∙ sym (tab_front S (suc n)),
      )
  parts_of_slots n ends leads right (inr (tabled, (inner, final, (k, leads2, right2, off2, is_inner, is_final), is))) =
      let names : NamesTable features m (S n) = names_table features m (S n) (packed_names features (length m) l.size (amount nothing_before (front S n)) (S n) right tabled) tabled in
      let some : 1 ≤ (S n).len / 16 = some_entry (S n).len names.some names.whole in
      let more : 1 ≤ k → k < (S n).len / 16 = λ one. reached k ((S n).len / 16) (λ j lt. lower j ((S n).len / 16) (length (front (entry_of m (S n)) j)) (length-front (entry_of m (S n)) j) (leads2 j lt).1) one in
      let count : (S n).len / 16 ≡ suc k = all_entries (length (front (entry_of m (S n)) k)) ((S n).len / 16) k (length-front (entry_of m (S n)) k) off2 more some in
      inr (
        n,
        omega arith,
        slots_direct n leads,
        names,
        ap (λ (ds : List Descriptor). map part_of (front S n ++ ds)) (is ∙ ap (λ (ds : List Descriptor). ds ++ final ∷ []) is_inner ∙ ap (λ (d : Descriptor). front (entry_of m (S n)) k ++ d ∷ []) is_final)
            ∙ map-append part_of (front S n) (front (entry_of m (S n)) (suc k))
            ∙ ap (λ (ps : List Part). ps ++ map part_of (front (entry_of m (S n)) (suc k))) (sym (tab_front S n))
            ∙ ap (λ (ps : List Part). slot_parts m l t n ++ ps) (sym (tab_front (entry_of m (S n)) (suc k)) ∙ ap (tabulated (λ (i : ℕ). part_of (entry_of m (S n) i))) (sym count)),
      )
    where
      lower : (j len b : ℕ) → b ≡ j → nat_lt (b + 1) len ≡ true → j + 1 < len
      lower j len b e lt = grind (arith, nat_tests)

      reached : (k len : ℕ) → ((j : ℕ) → j < k → j + 1 < len) → 1 ≤ k → k < len
      reached k len each one = omega (arith, each (k - 1) (omega (arith, one)), one)

  pub packed_has : (id slots : ℕ) (parts : List Part) → 1 ≤ l.size → PackedChain features m l t id slots parts → PackedChainProperties features m l t id slots parts
  unfolding IsRun
  packed_has id slots parts some (direct, last, ((n, leads, right, off, is, end), (ends, are, parts_are)), id_is, slots_are) =
      let count : suc n ≡ slots = omega (arith, slots_are, ap length is ∙ length-front S n) in
      let here : EndsIn (packed_table m) (amount nothing_before (front S n)) last ends = subst (λ (ds : List Descriptor). EndsIn (packed_table m) (amount nothing_before ds) last ends) is are in
      let there : EndsIn (packed_table m) (amount nothing_before (front S n)) (S n) ends = subst (λ (d : Descriptor). EndsIn (packed_table m) (amount nothing_before (front S n)) d ends) end here in
      let parts_is : parts ≡ map part_of (front S n ++ ends) = parts_are ∙ ap (λ (ds : List Descriptor). map part_of (ds ++ ends)) is in
      let found : PackedParts features m l t (suc n) parts = subst (λ (ps : List Part). PackedParts features m l t (suc n) ps) (sym parts_is) (parts_of_slots n ends leads right there) in (
        subst (λ (k : ℕ). IsRunOfSlots m l t k) count (slots_run n some leads right off),
        λ k e. let same : n ≡ k = omega (arith, e, count) in id_is ∙ ap (λ (d : Descriptor). d.next_or_id) (end ∙ ap S same),
        subst (λ (k : ℕ). PackedParts features m l t k parts) count found,
        chain_right (length m) Slots (packed_table m) (packed_tests features m l t) (packed_table_tests m) direct last parts ((n, leads, right, off, is, end), (ends, are, parts_are)),
      )

  -- and the other way round
  module _ (n : ℕ) (p : IsRunOfSlots m l t (suc n)) where
    slots_stop : goes_on (S n) ≡ false
    slots_stop = p.last n (omega arith)

    slots_of : ((k : ℕ) → k < n → is_indirect (S k) ≡ false) → ((k : ℕ) → k < n → first_of (buffer_tests (length m) (amount nothing_before (front S k)) (S k)) ≡ None)
        → packed_wrong features (length m) l.size (amount nothing_before (front S n)) (S n) ≡ None → IsRun Slots nothing_before (front S n) (S n)
    unfolding IsRun LeadsTo
    slots_of direct fine right =
        let count : (k : ℕ) → (amount nothing_before (front S k)).count ≡ k = length-front S in
        let leads : LeadsTo Slots nothing_before n =
        λ k lt. (
          packed_right features (length m) l.size (amount nothing_before (front S k)) (S k) (direct k lt) (fine k lt) (λ on. omega (arith, count k, p.most, lt)),
          p.onward k (omega (arith, lt)),
        ) in
        (n, leads, right, slots_stop, refl, refl)

    direct_slots : (parts : List Part) → AreDirectSlots m l t (suc n) → parts ≡ slot_parts m l t (suc n) → IsRightChain (length m) parts
        → IsChain Slots (packed_table m) (front S n) (S n) parts
    unfolding front
    direct_slots parts direct are right =
        let parts_is : parts ≡ map part_of (front S (suc n)) = are ∙ tab_front S (suc n) in
        let fine : AllTested (length m) S (suc n) = buffers (length m) S (suc n) (rw parts_is at right) in
        let last : packed_wrong features (length m) l.size (amount nothing_before (front S n)) (S n) ≡ None =
        packed_right features (length m) l.size (amount nothing_before (front S n)) (S n) (direct n (omega arith)) (fine n (omega arith)) (λ on. absurd (not_both (goes_on (S n)) on slots_stop)) in
        (slots_of (λ k lt. direct k (omega arith)) (λ k lt. fine k (omega arith)) last, (S n ∷ [], inl (direct n (omega arith), refl), parts_is))

    table_slots : (parts : List Part) → AreDirectSlots m l t n → NamesTable features m (S n)
        → parts ≡ slot_parts m l t n ++ tabulated (λ (k : ℕ). part_of (entry_of m (S n) k)) ((S n).len / 16) → IsRightChain (length m) parts
        → IsChain Slots (packed_table m) (front S n) (S n) parts
    unfolding front IsRun LeadsTo
    table_slots parts direct names are right =
        let E : ℕ → Descriptor = entry_of m (S n) in
        let b : Before = amount nothing_before (front S n) in
        let some : 1 ≤ (S n).len / 16 = some_entry (S n).len names.some names.whole in
        let k : ℕ = (S n).len / 16 - 1 in
        let count : (S n).len / 16 ≡ suc k = omega (arith, some) in
        let parts_is : parts ≡ map part_of (front S n) ++ map part_of (front (entry_of m (S n)) (suc k)) =
        are ∙ ap (λ (ps : List Part). ps ++ tabulated (λ (i : ℕ). part_of (entry_of m (S n) i)) ((S n).len / 16)) (tab_front S n)
        ∙ ap (λ (ps : List Part). map part_of (front S n) ++ ps) (ap (tabulated (λ (i : ℕ). part_of (entry_of m (S n) i))) count ∙ tab_front (entry_of m (S n)) (suc k)) in
        let whole : parts ≡ map part_of (front (joined n S (entry_of m (S n))) (suc (n + k))) = parts_is ∙ both_parts n k S (entry_of m (S n)) in
        let fine : AllTested (length m) (joined n S (entry_of m (S n))) (suc (n + k)) = buffers (length m) (joined n S (entry_of m (S n))) (suc (n + k)) (rw whole at right) in
        let named : table_wrong features (length m) (S n) ≡ None = table_right features (length m) (S n) names.agreed names.some names.whole names.inside slots_stop in
        let last : packed_wrong features (length m) l.size b (S n) ≡ None = packed_named features (length m) l.size b (S n) names.named named in
        let run : IsRun Slots nothing_before (front S n) (S n) =
        slots_of direct (λ j lt. sym (tests_low n S (entry_of m (S n)) (length m) j lt) ∙ fine j (omega (arith, lt))) last in
        let fine2 : (j : ℕ) → j < suc k → first_of (buffer_tests (length m) (amount b (front (entry_of m (S n)) j)) (entry_of m (S n) j)) ≡ None =
        λ j lt. sym (tests_high n S (entry_of m (S n)) (length m) j) ∙ fine (n + j) (omega (arith, lt)) in
        let leads2 : LeadsTo (packed_table m (S n)) b k = λ j lt. (fine2 j (omega (arith, lt)), more j (length (front (entry_of m (S n)) j)) ((S n).len / 16) (length-front (entry_of m (S n)) j) (omega (arith, count, lt))) in
        let run2 : IsRun (packed_table m (S n)) b (front (entry_of m (S n)) k) (entry_of m (S n) k) =
        (k, leads2, fine2 k (omega arith), no_more k (length (front (entry_of m (S n)) k)) ((S n).len / 16) (length-front (entry_of m (S n)) k) count, refl, refl) in
        (run, (front (entry_of m (S n)) (suc k), inr (names.named, (front (entry_of m (S n)) k, entry_of m (S n) k, run2, refl)), parts_is ∙ sym (map-append part_of (front S n) (front (entry_of m (S n)) (suc k)))))
      where
        more : (j b len : ℕ) → b ≡ j → j + 1 < len → nat_lt (b + 1) len ≡ true
        more j b len e lt = grind (arith, nat_tests)

        no_more : (k b len : ℕ) → b ≡ k → len ≡ suc k → nat_lt (b + 1) len ≡ false
        no_more k b len e count = grind (arith, nat_tests)

  of_slots : (n slots id : ℕ) (parts : List Part) → suc n ≡ slots → IsChain Slots (packed_table m) (front S n) (S n) parts → ((k : ℕ) → k + 1 ≡ slots → id ≡ (S k).next_or_id)
      → PackedChain features m l t id slots parts
  of_slots n slots id parts count chain id_is = (front S n, S n, chain, id_is n (omega (arith, count)), omega (arith, count, length-front S n))

  pub packed_is : (id slots : ℕ) (parts : List Part) → PackedChainProperties features m l t id slots parts → PackedChain features m l t id slots parts
  packed_is id slots parts (run, id_is, inl (direct, are), right) =
      let n : ℕ = slots - 1 in
      let count : suc n ≡ slots = omega (arith, run.some) in
      let here : IsRunOfSlots m l t (suc n) = subst (λ (k : ℕ). IsRunOfSlots m l t k) (sym count) run in
      of_slots n slots id parts count
      (direct_slots n here parts (λ k lt. direct k (omega (arith, lt, count))) (are ∙ ap (slot_parts m l t) (sym count)) right) id_is
  packed_is id slots parts (run, id_is, inr (n, long, direct, names, are), right) =
      let count : suc n ≡ slots = omega (arith, long) in
      of_slots n slots id parts count
      (table_slots n (subst (λ (k : ℕ). IsRunOfSlots m l t k) (sym count) run) parts direct names are right) id_is
