-- What a unit's history was, as it goes on.
use Rattle.std.proofs.Common.{◌≡◌, ◌≤◌, ◌-◌, ℕ, zero, suc, Bool, true, false, ◌||◌, List, [], ◌∷◌, length, drop, refl, ap, arith}
use Rattle.unit_model.specs.Tasks.{Entry}
use Rattle.unit_model.specs.Steps.{Step, as_of}
use Rattle.unit_model.specs.Enabling.{enabled}

pub as_of-more : (p : ℕ) (s : Step) (past : List Step) → p ≤ length past → as_of p (s ∷ past) ≡ as_of p past
as_of-more p s past le =
    let more : length (s ∷ past) - p ≡ suc (length past - p) = omega (arith, le) in
    ap (λ n. drop n (s ∷ past)) more

pub as_of-now : (p : ℕ) (steps : List Step) → length steps ≤ p → as_of p steps ≡ steps
as_of-now p steps le =
    let none : length steps - p ≡ 0 = omega (arith, le) in
    ap (λ n. drop n steps) none

-- A task that might run may run from then on

or_left : (a b : Bool) → a ≡ true → (a || b) ≡ true
or_left a b is = ap (λ x. x || b) is

never_of_none : (e : Entry) (h : List Step) (n : ℕ) → h ≡ [] → enabled e (drop n h) ≡ true → false ≡ true
never_of_none e [] zero none is = is
never_of_none e [] (suc n) none is = is
never_of_none e (s ∷ past) n none is = absurd (cc)

enabled_drop : (e : Entry) (n m : ℕ) (h : List Step) → m ≤ n → enabled e (drop n h) ≡ true → enabled e (drop m h) ≡ true
enabled_drop e n m [] le is =
    let never : false ≡ true = never_of_none e [] n refl is in
    absurd (cc)
enabled_drop e zero zero (s ∷ past) le is = is
enabled_drop e zero (suc m) (s ∷ past) le is = absurd (omega (arith, le))
enabled_drop e (suc n) zero (s ∷ past) le is = or_left (enabled e past) _ (enabled_drop e n zero past (omega arith) is)
enabled_drop e (suc n) (suc m) (s ∷ past) le is = enabled_drop e n m past (omega (arith, le)) is

pub enabled_since : (e : Entry) (since place : ℕ) (steps : List Step) → since ≤ place → enabled e (as_of since steps) ≡ true
    → enabled e (as_of place steps) ≡ true
enabled_since e since place steps le is =
    enabled_drop e (length steps - since) (length steps - place) steps (omega (arith, le)) is
