-- The parts of a sequence of descriptors whose buffers were tested, in either form of queue.
use Rattle.std.proofs.Common.{◌≡◌, ℕ, zero, suc, ◌+◌, ◌<◌, ◌≤◌, ◌^◌, List, [], ◌∷◌, ◌++◌, Bool, true, false, cond, None, arith, map, sum_by}
use Rattle.std.proofs.lemmas.Grind.{common_steps}
use Rattle.std.proofs.lemmas.Bool.Decides.{nat_tests}
use Rattle.std.proofs.lemmas.List.{map-append}
use Rattle.std.proofs.lemmas.List.Sums.{sum_by-append}
use Rattle.std.proofs.lemmas.List.Elements.{All-push}
use Rattle.std.specs.List.{AllPass}
use Rattle.ring_core.specs.Walk.{nothing_before, part_of, amount, front, first_of, buffer_tests}
use Rattle.ring_core.specs.Parts.{inside, readable_total, writable_total, PartsFit}
use Rattle.ring_core.specs.declared.descriptor.Part.{Part}
use Rattle.ring_core.specs.declared.descriptor.Descriptor.{Descriptor}
use Rattle.ring_core.specs.declared.before.Before.{Before}

-- what follows where nothing is wrong with a buffer
right_inside : (memory : ℕ) (b : Before) (d : Descriptor) → first_of (buffer_tests memory b d) ≡ None → inside memory (part_of d) ≡ true
right_inside memory b d e = grind (arith, common_steps, nat_tests)

right_total : (memory : ℕ) (b : Before) (d : Descriptor) → first_of (buffer_tests memory b d) ≡ None → b.total + d.len ≤ 2 ^ 32
right_total memory b d e = grind (arith, common_steps, nat_tests)

readable_more : (ps : List Part) (p : Part) → readable_total (ps ++ p ∷ []) ≡ readable_total ps + cond p.writable 0 p.len
readable_more ps p = omega (arith, sum_by-append (λ (x : Part). cond x.writable 0 x.len) ps (p ∷ []))

writable_more : (ps : List Part) (p : Part) → writable_total (ps ++ p ∷ []) ≡ writable_total ps + cond p.writable p.len 0
writable_more ps p = omega (arith, sum_by-append (λ (x : Part). cond x.writable x.len 0) ps (p ∷ []))

pub len_more : (ds : List Descriptor) (d : Descriptor) → sum_by (λ (x : Descriptor). x.len) (ds ++ d ∷ []) ≡ sum_by (λ (x : Descriptor). x.len) ds + d.len
len_more ds d = omega (arith, sum_by-append (λ (x : Descriptor). x.len) ds (d ∷ []))

both : (b : Bool) (n : ℕ) → cond b 0 n + cond b n 0 ≡ n
both true n = omega arith
both false n = omega arith

-- In any sequence of descriptors:
module _ (at : ℕ → Descriptor) where
  -- the parts have the bytes of the descriptors
  pub fit_sum : (n : ℕ) → readable_total (map part_of (front at n)) + writable_total (map part_of (front at n)) ≡ sum_by (λ (x : Descriptor). x.len) (front at n)
  unfolding front
  fit_sum zero = omega arith
  fit_sum (suc n) =
      rw (map-append, readable_more, writable_more, len_more) (omega (arith, fit_sum n, both (part_of (at n)).writable (at n).len))

-- nothing is wrong with the buffers of the first n of a sequence
abbrev pub AllTested : ℕ → (ℕ → Descriptor) → ℕ → Type 0
AllTested memory at n = (k : ℕ) → k < n → first_of (buffer_tests memory (amount nothing_before (front at k)) (at k)) ≡ None

module _ (memory : ℕ) (at : ℕ → Descriptor) where
  fit_inside : (n : ℕ) → AllTested memory at n → AllPass (inside memory) (map part_of (front at n))
  unfolding front
  fit_inside zero r = λ k d lt. absurd (omega arith)
  fit_inside (suc n) r =
      rw map-append
      (All-push (λ (p : Part). inside memory p ≡ true) (map part_of (front at n)) (part_of (at n)) (fit_inside n (λ k lt. r k (omega arith)))
      (right_inside memory (amount nothing_before (front at n)) (at n) (r n (omega arith))))

  pub tested_fit : (n : ℕ) → AllTested memory at (suc n) → PartsFit memory (map part_of (front at (suc n)))
  unfolding front
  tested_fit n r =
      record {
        inside = fit_inside (suc n) r;
        total =
            omega (arith, fit_sum at (suc n), len_more (front at n) (at n), right_total memory (amount nothing_before (front at n)) (at n) (r n (omega arith)));
      }
