-- The least number of what is outstanding, head by head or id by id.
use Rattle.std.proofs.Common.{◌≡◌, ℕ, ◌+◌, ◌<◌, List, [], ◌∷◌, length, zero, suc, get_or, min, Option, Some, None, refl, sym, ap, ◌∙◌, arith, ◌⊎◌, inl, inr}
use Rattle.std.proofs.lemmas.Option.{same_Some}
use Rattle.ring_core.specs.Inner.Table.{IsLeastBelow, lesser_of}
use Rattle.ring_core.specs.declared.outstanding.OutstandingChain.{OutstandingChain}

below_or_last : (n m : ℕ) → n < m + 1 → (n < m) ⊎ (n ≡ m)
below_or_last n m lt = grind arith

clash : (c : OutstandingChain) → None ≡ Some c → ⊥
clash c e = cc

-- the item at an index, whatever stands for one past the end
pub same_at : {X : Type 0} (xs : List X) (i : ℕ) (d e : X) → i < length xs → get_or xs i d ≡ get_or xs i e
same_at [] i d e lt = absurd (omega arith)
same_at (x ∷ xs) zero d e lt = refl
same_at (x ∷ xs) (suc i) d e lt = same_at xs i d e (omega arith)

-- a fact of the index that was looked at last, and of those before it
module _ (xs : List (Option OutstandingChain)) (i : ℕ) where
  at_last : (k : ℕ) (x : Option OutstandingChain) (c : OutstandingChain) → get_or xs i None ≡ x → k ≡ i → get_or xs k None ≡ Some c → x ≡ Some c
  at_last k x c is same e = sym is ∙ ap (λ (j : ℕ). get_or xs j None) (sym same) ∙ e

  -- one more is looked at
  pub least_more : (r : Option ℕ) (x : Option OutstandingChain) → IsLeastBelow xs i r → get_or xs i None ≡ x → IsLeastBelow xs (i + 1) (lesser_of r x)
  least_more None None old is = λ k lt.
      elim (below_or_last k i lt) [ inl b ↦ old k b | inr e ↦ ap (λ (j : ℕ). get_or xs j None) e ∙ is ]
  least_more (Some n) None old is =
      let t = old.there in
      record {
        there = (t.0, t.1, omega (arith, t.2), t.3, t.4);
        least = λ k c lt e. elim (below_or_last k i lt) [ inl b ↦ old.least k c b e | inr q ↦ absurd (clash c (at_last k None c is q e)) ];
      }
  least_more None (Some d) old is =
      record {
        there = (i, d, omega arith, is, refl);
        least = λ k c lt e. elim (below_or_last k i lt) [
          | inl b ↦ absurd (clash c (sym (old k b) ∙ e))
          | inr q ↦ let p = ap (λ (o : OutstandingChain). o.number) (same_Some d c (at_last k (Some d) c is q e)) in omega (arith, p)
        ];
      }
  least_more (Some n) (Some d) old is =
      record {
        there = elim (lower n d.number) [
          | inl a ↦ let t = old.there in (t.0, t.1, omega (arith, t.2), t.3, t.4 ∙ sym a)
          | inr b ↦ (i, d, omega arith, is, sym b)
        ];
        least = λ k c lt e. elim (below_or_last k i lt) [
          | inl b ↦ omega (arith, old.least k c b e)
          | inr q ↦ let p = ap (λ (o : OutstandingChain). o.number) (same_Some d c (at_last k (Some d) c is q e)) in omega (arith, p)
        ];
      }
    where
      lower : (a b : ℕ) → (min a b ≡ a) ⊎ (min a b ≡ b)
      lower a b = grind arith
