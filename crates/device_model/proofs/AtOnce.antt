-- A worker that puts a job and takes it at once.
use Rattle.std.proofs.Common.{◌≡◌, ℕ, ◌<◌, List, [], ◌∷◌, drop, Some, refl, sym, ◌∙◌, ap, arith, inl, inr, zero, suc}
use Rattle.std.specs.Prelude.{slice_get}
use Rattle.unit_model.specs.Jobs.{PlainJob}
use Rattle.device_model.specs.Parts.{Hand}
use Rattle.device_model.specs.World.{PlainWorld, IsBefore, change}
use Rattle.device_model.specs.Transitions.{Transition}
use Rattle.device_model.specs.Changing.{with_hand, without_first, with_job}
use Rattle.device_model.specs.After.{after}
use Rattle.device_model.specs.Happens.{Happens}
use Rattle.device_model.specs.Found.{SeatIs, OffIs}
use Rattle.device_model.proofs.Lists.{same, get_change}

change_twice : {X : Type 0} (f g h : X → X) → ((x : X) → f (g x) ≡ h x) → (k : ℕ) (xs : List X)
    → change f k (change g k xs) ≡ change h k xs
change_twice f g h e k [] = refl
change_twice f g h e zero (x ∷ xs) = ap (λ z. z ∷ xs) (e x)
change_twice f g h e (suc k) (x ∷ xs) = ap (λ zs. x ∷ zs) (change_twice f g h e k xs)

change_back : {X : Type 0} (f g : X → X) (k : ℕ) (xs : List X) (x : X) → slice_get xs k ≡ Some x → f (g x) ≡ x
    → change f k (change g k xs) ≡ xs
change_back f g k [] x at e = refl
change_back f g zero (y ∷ xs) x at e =
    ap (λ z. z ∷ xs) (ap (λ z. f (g z)) (same at) ∙ e ∙ sym (same at))
change_back f g (suc k) (y ∷ xs) x at e = ap (λ zs. y ∷ zs) (change_back f g k xs x at e)

-- no list comes before the own one
own_first : (k i : ℕ) → IsBefore k i k → ⊥
own_first k i (inl p) =
    elim p.1 [
      | inl lt ↦ omega (arith, lt, p.0)
      | inr lt ↦ omega (arith, lt)
    ]
own_first k i (inr p) = omega (arith, p.1)

module _ (w : PlainWorld) (k : ℕ) (x : PlainJob) (seat : SeatIs w k Hand.Empty (x ∷ [])) (empty : OffIs w k []) where
  pub puts_it : 0 < w.limit → Happens (Transition.Put k x) w
  puts_it room = record { rest = []; seat = seat; off = []; there = empty; room = room }

  pub takes_it : k < w.workers → Happens (Transition.Take k k x) (after (Transition.Put k x) w)
  takes_it worker =
      record {
        worker = worker;
        seat = get_change (without_first Hand.Empty) k w.seats (record { hand = Hand.Empty; out = x ∷ [] }) seat;
        rest = [];
        handed_off = get_change (with_job x) k w.handed_off [] empty;
        first = λ i jobs before there. absurd (own_first k i before);
      }

  pub has_it : after (Transition.Take k k x) (after (Transition.Put k x) w) ≡ after (Transition.Keep k x) w
  has_it =
      let seats =
      change_twice (with_hand (Hand.Taken x)) (without_first Hand.Empty) (without_first (Hand.Taken x)) (λ s. refl) k w.seats in
      let lists = change_back (drop 1) (with_job x) k w.handed_off [] empty refl in
      λ i. record w { seats = seats i; handed_off = lists i }
