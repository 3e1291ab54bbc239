-- Whether a page is lost or denied once one thing more was done.
use Rattle.std.proofs.Common.{◌≡◌, ◌≢◌, ◌==◌, ◌*◌, ◌≤◌, ℕ, Bool, true, false, ◌||◌, ◌&&◌, not, nat_lt, List, [], ◌∷◌, ◌++◌, refl, ap, ◌∙◌, arith}
use Rattle.std.proofs.lemmas.Bool.Decides.{nat_tests}
use Rattle.block_store.specs.Storage.{Dealing, lost_after, lost_by, denied_after, denied_by}

pub lost-last : (p : ℕ) (was : Bool) (ds : List Dealing) (d : Dealing) → lost_by p was (ds ++ d ∷ []) ≡ lost_after p (lost_by p was ds) d
lost-last p was [] d = refl
lost-last p was (e ∷ more) d = lost-last p (lost_after p was e) more d

or-true : (b : Bool) → (b || true) ≡ true
or-true true = refl
or-true false = refl

or-false : (b : Bool) → (b || false) ≡ b
or-false true = refl
or-false false = refl

and-true : (b : Bool) → (b && not false) ≡ b
and-true true = refl
and-true false = refl

and-false : (b : Bool) → (b && not true) ≡ false
and-false true = refl
and-false false = refl

itself : (p : ℕ) → (p == p) ≡ true
itself p = grind (arith, nat_tests)

pub lose-last : (p : ℕ) (was : Bool) (ds : List Dealing) → lost_by p was (ds ++ Dealing.Lose p ∷ []) ≡ true
lose-last p was ds =
    lost-last p was ds (Dealing.Lose p) ∙ ap (λ b. lost_by p was ds || b) (itself p) ∙ or-true (lost_by p was ds)

pub load-last : (p : ℕ) (was : Bool) (ds : List Dealing) → lost_by p was (ds ++ Dealing.Load p ∷ []) ≡ false
load-last p was ds =
    lost-last p was ds (Dealing.Load p) ∙ ap (λ b. lost_by p was ds && not b) (itself p) ∙ and-false (lost_by p was ds)

pub keep-last : (p : ℕ) (was : Bool) (ds : List Dealing) → lost_by p was (ds ++ Dealing.Keep p ∷ []) ≡ false
keep-last p was ds =
    lost-last p was ds (Dealing.Keep p) ∙ ap (λ b. lost_by p was ds && not b) (itself p) ∙ and-false (lost_by p was ds)

-- what is said of another page
pub lose-else : (p q : ℕ) → (p == q) ≡ false → (was : Bool) → lost_after p was (Dealing.Lose q) ≡ was
lose-else p q apart was = ap (λ b. was || b) apart ∙ or-false was

pub load-else : (p q : ℕ) → (p == q) ≡ false → (was : Bool) → lost_after p was (Dealing.Load q) ≡ was
load-else p q apart was = ap (λ b. was && not b) apart ∙ and-true was

pub keep-else : (p q : ℕ) → (p == q) ≡ false → (was : Bool) → lost_after p was (Dealing.Keep q) ≡ was
keep-else p q apart was = ap (λ b. was && not b) apart ∙ and-true was

pub denied-last : (p : ℕ) (was : Bool) (ds : List Dealing) (d : Dealing) → denied_by p was (ds ++ d ∷ []) ≡ denied_after p (denied_by p was ds) d
denied-last p was [] d = refl
denied-last p was (e ∷ more) d = denied-last p (denied_after p was e) more d

pub deny-last : (p : ℕ) (was : Bool) (ds : List Dealing) → denied_by p was (ds ++ Dealing.Deny p ∷ []) ≡ true
deny-last p was ds =
    denied-last p was ds (Dealing.Deny p) ∙ ap (λ b. denied_by p was ds || b) (itself p) ∙ or-true (denied_by p was ds)

pub keep-denied : (p : ℕ) (was : Bool) (ds : List Dealing) → denied_by p was (ds ++ Dealing.Keep p ∷ []) ≡ false
keep-denied p was ds =
    denied-last p was ds (Dealing.Keep p) ∙ ap (λ b. denied_by p was ds && not b) (itself p) ∙ and-false (denied_by p was ds)

and-off : (b : Bool) → (b && false) ≡ false
and-off true = refl
and-off false = refl

behind : (p n : ℕ) → n ≤ 8 * p → nat_lt (8 * p) n ≡ false
behind p n h = grind (arith, nat_tests)

pub cut-denied : (p n : ℕ) (was : Bool) (ds : List Dealing) → n ≤ 8 * p → denied_by p was (ds ++ Dealing.Cut n ∷ []) ≡ false
cut-denied p n was ds h =
    denied-last p was ds (Dealing.Cut n) ∙ ap (λ b. denied_by p was ds && b) (behind p n h) ∙ and-off (denied_by p was ds)

pub deny-else : (p q : ℕ) → (p == q) ≡ false → (was : Bool) → denied_after p was (Dealing.Deny q) ≡ was
deny-else p q apart was = ap (λ b. was || b) apart ∙ or-false was

pub keep-denied-else : (p q : ℕ) → (p == q) ≡ false → (was : Bool) → denied_after p was (Dealing.Keep q) ≡ was
keep-denied-else p q apart was = ap (λ b. was && not b) apart ∙ and-true was
