-- Kinds in a ring, and one more.
use Rattle.std.proofs.Common.{◌≡◌, ℕ, zero, suc, ◌+◌, ◌%◌, ◌<◌, ◌≤◌, Bool, true, false, nat_lt, eqb, cond, List, [], ◌∷◌, ◌++◌, length, set, get_or, slice_get, Some, None, is_some, refl, sym, ◌∙◌, ap, subst, arith, length-append}
use Rattle.std.proofs.lemmas.Bool.{ltb-true, ltb-false}
use Rattle.std.proofs.lemmas.List.{length-set}
use Rattle.std.proofs.lemmas.Option.{slice_get_read, slice_get_past}
use Rattle.unit_model.specs.Base.{most_kept}
use Rattle.unit_log.specs.declared.kind.StepKind.{StepKind}
use Rattle.unit_log.specs.Inner.Slots.{AreSlots, IsCalm, with_slot}
use Rattle.unit_log.specs.Inner.Folding.{met_one}
use Rattle.unit_log.specs.Inner.Kept.{met_kind}
use Rattle.unit_log.proofs.Places.{push_here, push_other, push_get}
use Rattle.unit_log.proofs.Marks.{no_rule}

set_here : {X : Type 0} (xs : List X) (i : ℕ) (y : X) → i < length xs → slice_get (set xs i y) i ≡ Some y
set_here [] i y below = absurd (omega (arith, below))
set_here (x ∷ xs) zero y below = refl
set_here (x ∷ xs) (suc i) y below = set_here xs i y (omega (arith, below))

set_other : {X : Type 0} (xs : List X) (i k : ℕ) (y : X) → (i ≡ k → ⊥) → slice_get (set xs i y) k ≡ slice_get xs k
set_other [] i k y other = refl
set_other (x ∷ xs) zero zero y other = absurd (other refl)
set_other (x ∷ xs) zero (suc k) y other = refl
set_other (x ∷ xs) (suc i) zero y other = refl
set_other (x ∷ xs) (suc i) (suc k) y other = set_other xs i k y (λ e. other (ap suc e))

module _ (len : ℕ) (slots kinds : List StepKind) (kind : StepKind) (a : AreSlots len slots kinds) where
  one : length (kinds ++ kind ∷ []) ≡ length kinds + 1
  one = length-append kinds (kind ∷ [])

  -- before all indices are taken
  behind : length slots < most_kept → AreSlots (len + 1) (slots ++ kind ∷ []) (kinds ++ kind ∷ [])
  behind below =
      let size = a.size in
      let counted = a.counted in
      let more = length-append slots (kind ∷ []) in
      record {
        counted = omega (arith, counted, one);
        size = omega (arith, size, more, one, below);
        stand = λ p lt le.
            (elim (nat_lt p (length kinds)) as (λ b. nat_lt p (length kinds) ≡ b → slice_get (slots ++ kind ∷ []) (p % most_kept) ≡ slice_get (kinds ++ kind ∷ []) p) [
              | true ↦ λ e.
                  let h = ltb-true p (length kinds) e in
                  push_other slots kind (p % most_kept) (λ same. omega (arith, same, size, h, below))
                  ∙ a.stand p h (omega (arith, size, below))
                  ∙ sym (push_other kinds kind p (λ same. omega (arith, same, h)))
              | false ↦ λ e.
                  let h = ltb-false p (length kinds) e in
                  ap (slice_get (slots ++ kind ∷ [])) (omega (arith, h, lt, one, size, below))
                  ∙ push_here slots kind
                  ∙ sym (push_here kinds kind)
                  ∙ ap (slice_get (kinds ++ kind ∷ [])) (omega (arith, h, lt, one))
            ]) refl;
      }

  -- in place of the oldest
  over : most_kept ≤ length slots → AreSlots (len + 1) (set slots (len % most_kept) kind) (kinds ++ kind ∷ [])
  over full =
      let size = a.size in
      let counted = a.counted in
      let same_size = length-set slots (len % most_kept) kind in
      record {
        counted = omega (arith, counted, one);
        size = omega (arith, size, same_size, one, full);
        stand = λ p lt le.
            (elim (nat_lt p (length kinds)) as (λ b. nat_lt p (length kinds) ≡ b → slice_get (set slots (len % most_kept) kind) (p % most_kept) ≡ slice_get (kinds ++ kind ∷ []) p) [
              | true ↦ λ e.
                  let h = ltb-true p (length kinds) e in
                  set_other slots (len % most_kept) (p % most_kept) kind (λ same. omega (arith, same, counted, h, le, one))
                  ∙ a.stand p h (omega (arith, le, one))
                  ∙ sym (push_other kinds kind p (λ same. omega (arith, same, h)))
              | false ↦ λ e.
                  let h = ltb-false p (length kinds) e in
                  let it : p ≡ length kinds = omega (arith, h, lt, one) in
                  ap (λ n. slice_get (set slots (len % most_kept) kind) (n % most_kept)) (it ∙ sym counted)
                  ∙ set_here slots (len % most_kept) kind (omega (arith, full))
                  ∙ sym (push_here kinds kind)
                  ∙ ap (slice_get (kinds ++ kind ∷ [])) (sym it)
            ]) refl;
      }

  pub slots_more : (len' at : ℕ) (slots' kinds' : List StepKind) → len' ≡ len + 1 → at ≡ len % most_kept → slots' ≡ with_slot at kind slots → kinds' ≡ kinds ++ kind ∷ []
      → AreSlots len' slots' kinds'
  slots_more len' at slots' kinds' is_len is_at is_slots is_kinds =
      subst (λ n. AreSlots n slots' kinds') (sym is_len)
      (subst (AreSlots (len + 1) slots') (sym is_kinds)
      (subst (λ w. AreSlots (len + 1) w (kinds ++ kind ∷ [])) (sym (is_slots ∙ ap (λ n. with_slot n kind slots) is_at))
      ((elim (nat_lt (length slots) most_kept) as (λ b. nat_lt (length slots) most_kept ≡ b → AreSlots (len + 1) (cond b (slots ++ kind ∷ []) (set slots (len % most_kept) kind)) (kinds ++ kind ∷ [])) [
        | true ↦ λ e. behind (ltb-true (length slots) most_kept e)
        | false ↦ λ e. over (ltb-false (length slots) most_kept e)
      ]) refl)))

-- what stands at the index of a place
pub stands_at : (len place at : ℕ) (slots kinds : List StepKind) (kind : StepKind) → AreSlots len slots kinds → at ≡ place % most_kept → place < length kinds
    → length kinds ≤ place + most_kept → kind ≡ get_or slots at kind → slice_get kinds place ≡ Some kind
stands_at len place at slots kinds kind a is_at there still is =
    let size = a.size in
    sym (a.stand place there still)
    ∙ ap (slice_get slots) (sym is_at)
    ∙ slice_get_read slots (length slots) at kind refl (omega (arith, size, is_at, there)) is

calm_still : (len calm : ℕ) (kinds : List StepKind) (kind : StepKind) (b : Bool) → is_some (met_kind kind) ≡ b → len ≡ length kinds → IsCalm calm kinds
    → IsCalm (cond b (len + 1) calm) (kinds ++ kind ∷ [])
calm_still len calm kinds kind true is counted c =
    let one = length-append kinds (kind ∷ []) in
    λ p le. ap met_one (slice_get_past (kinds ++ kind ∷ []) p (omega (arith, le, one, counted)))
calm_still len calm kinds kind false is counted c = λ p le.
    ap met_one (push_get kinds kind p)
    ∙ (elim (eqb (length kinds) p) as (λ b. met_one (cond b (Some kind) (slice_get kinds p)) ≡ None) [
      | true ↦ no_rule (met_kind kind) is
      | false ↦ c p le
    ])

pub calm_more : (len calm calm' : ℕ) (kinds kinds' : List StepKind) (kind : StepKind) → len ≡ length kinds → IsCalm calm kinds
    → calm' ≡ cond (is_some (met_kind kind)) (len + 1) calm → kinds' ≡ kinds ++ kind ∷ [] → IsCalm calm' kinds'
calm_more len calm calm' kinds kinds' kind counted c is_calm is_kinds =
    subst (λ n. IsCalm n kinds') (sym is_calm) (subst (IsCalm (cond (is_some (met_kind kind)) (len + 1) calm)) (sym is_kinds)
    (calm_still len calm kinds kind (is_some (met_kind kind)) refl counted c))
