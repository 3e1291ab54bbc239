-- The first of some events that changes something.
use Rattle.std.proofs.Common.{◌≡◌, ◌⊎◌, inl, inr, ℕ, ◌<◌, ◌+◌, false, List, Option, Some, None, is_some, refl, sym, subst, ◌∙◌, arith}
use Rattle.device_model.specs.World.{PlainWorld}
use Rattle.device_model.specs.Events.{Event}
use Rattle.device_model.specs.Applies.{Applies}
use Rattle.device_model.specs.Transitions.{Transition}
use Rattle.device_model.proofs.Applying.{applies}
use Rattle.device_model.proofs.Lists.{nothing}
use Rattle.device_model.specs.Order.{IsFirstOf, NoneApplies}
use Rattle.device_steps.specs.Inner.Cursors.{TurnsBy, TurnsFirst, of_function}

-- where an event changed something it applied, so it is first where it is behind those that don't apply
pub taken : (Q : Transition → Type 0) (xs : List Event) (e : Event) (w w' : PlainWorld) → (Applies w e → IsFirstOf w xs e)
    → TurnsBy Q w e w' → TurnsFirst Q xs w w'
taken Q xs e w w' first t = (
  t.0,
  t.2,
  subst (λ x. IsFirstOf w xs x) (sym t.1) (first (subst (λ x. Applies w x) t.1 (applies t.0 w t.2))),
  t.3,
  t.4,
)

-- an option that hasn't some has none
pub option_none : {X : Type 0} (o : Option X) → is_some o ≡ false → o ≡ None
option_none None e = refl
option_none (Some x) e = absurd (cc)

-- where no function is open none of its events applies
pub none_open : (w : PlainWorld) → w.function ≡ None → NoneApplies w of_function
none_open w closed = (
  λ a. nothing (sym closed ∙ a.there),
  (λ a. nothing (sym closed ∙ a.there), (λ a. nothing (sym closed ∙ a.there), tt)),
)

-- below the next number is below this one, or this one
pub below_next : (i n : ℕ) → i < n + 1 → (i < n) ⊎ (i ≡ n)
below_next i n lt = grind arith

-- one more number of which something holds
pub and_next : (P : ℕ → Type 0) (n : ℕ) → ((i : ℕ) → i < n → P i) → P n → (i : ℕ) → i < n + 1 → P i
and_next P n below here i lt = elim (below_next i n lt) [
  | inl p ↦ below i p
  | inr p ↦ subst P (sym p) here
]
