-- A device that is served in rounds, each of which ends with its drivers asked.
use Rattle.std.proofs.Common.{◌≡◌, ℕ, ◌+◌, ◌-◌, ◌≤◌, Bool, true, false, List, [], ◌∷◌, length, Result, Ok, Err, refl, sym, ap, ◌∙◌, subst, true≢false, arith}
use Rattle.std.proofs.Common.{add-one}
use Rattle.std.specs.Prelude.{◌||◌, ◌&&◌, ◌==◌}
use Rattle.std.proofs.lemmas.Bool.Decides.{nat_tests}
use Rattle.std.proofs.lemmas.List.Sums.{sum_by-cons}
use Rattle.foundation.specs.declared.NoMemory.{NoMemory}
use Rattle.world.specs.ServingAsked.{AsksIf, AsksBelow, Round, Rounds, all_steps, ServesAsked, ServesAskedUntilRefused}
use Rattle.world.specs.declared.served.Served.{Served}

-- rounds of so many steps in all; once the drivers were asked there was one
pub record SoFar {S : Type 0} (Serves : ℕ → S → Result Served NoMemory → S → Type 0) (AsksAll : S → S → Type 0) (x : S)
    (most steps : ℕ) (asked : Bool) (y : S) : Type 0 where
  pub rounds : List ℕ
  pub took : Rounds Serves AsksAll x most rounds y
  pub counted : all_steps rounds ≡ steps
  pub one : asked ≡ true → 1 ≤ length rounds

all_on : (a b : ℕ) (past : List ℕ) → all_steps past ≡ b → all_steps (a ∷ past) ≡ b + a
all_on a b past e = rw (sum_by-cons (λ (n : ℕ). n) a past) (omega (arith, e))

-- one queue more was asked
pub below_next : {S : Type 0} (AsksOne : ℕ → S → S → Type 0) (asked : ℕ → Bool) (q : ℕ) (x y z : S) → AsksBelow AsksOne asked q x y
    → AsksIf AsksOne (asked q) q y z → AsksBelow AsksOne asked (q + 1) x z
below_next {S} AsksOne asked q x y z h one = subst (λ n. AsksBelow AsksOne asked n x z) (sym (add-one q)) (y, h, one)

-- more is left where serving isn't over, else nothing came since the drivers were asked
pub goes_on : (r m a t : Bool) → r ≡ (m || (a && t)) → r ≡ false → m ≡ false
goes_on r true a t e off = absurd (true≢false (sym e ∙ off))
goes_on r false a t e off = refl

pub none_came : (r m a : Bool) (n : ℕ) → r ≡ (m || (a && (n == 0))) → r ≡ true → m ≡ false → (a ≡ true) × (n ≡ 0)
none_came r true a n e on off = absurd (true≢false off)
none_came r false true n e on off = (refl, grind (arith, nat_tests, e, on))
none_came r false false n e on off = absurd (true≢false (sym on ∙ e))

module _ {S : Type 0} (Serves : ℕ → S → Result Served NoMemory → S → Type 0) (AsksAll : S → S → Type 0) (x : S) (most : ℕ) where
  pub none_yet : SoFar Serves AsksAll x most 0 false x
  none_yet = record { rounds = []; took = refl; counted = refl; one = λ on. absurd (true≢false (sym on)) }

  pub one_more : (steps : ℕ) (asked : Bool) (y z w : S) (s : Served) → SoFar Serves AsksAll x most steps asked y
      → Serves (most - steps) y (Ok s) z → s.more ≡ false → AsksAll z w → SoFar Serves AsksAll x most (steps + s.steps) true w
  one_more steps asked y z w s h serves none asks =
      record {
        rounds = s.steps ∷ h.rounds;
        took = (
          y,
          h.took,
          record {
            behind = z;
            told = s;
            serves = subst (λ n. Serves (most - n) y (Ok s) z) (sym h.counted) serves;
            counted = refl;
            none = none;
            asks = asks;
          },
        );
        counted = all_on s.steps steps h.rounds h.counted;
        one = λ on. omega (arith);
      }

  pub over : (steps : ℕ) (asked : Bool) (y z : S) (s : Served) → SoFar Serves AsksAll x most steps asked y
      → Serves (most - steps) y (Ok s) z → steps + s.steps ≤ most → (s.more ≡ false → (asked ≡ true) × (s.steps ≡ 0))
      → ServesAsked Serves AsksAll x most (record { steps = steps + s.steps; more = s.more }) z
  over steps asked y z s h serves few none =
      record {
        rounds = h.rounds;
        behind = y;
        took = h.took;
        told = s;
        serves = subst (λ n. Serves (most - n) y (Ok s) z) (sym h.counted) serves;
        counted = ap (λ n. n + s.steps) (sym h.counted);
        few = few;
        more = refl;
        asked = λ off. (h.one (none off).0, (none off).1);
      }

  pub refused : (steps : ℕ) (asked : Bool) (y z : S) (fault : NoMemory) → SoFar Serves AsksAll x most steps asked y → steps ≤ most
      → Serves (most - steps) y (Err fault) z → ServesAskedUntilRefused Serves AsksAll x most fault z
  refused steps asked y z fault h few serves =
      record {
        rounds = h.rounds;
        behind = y;
        took = h.took;
        few = subst (λ n. n ≤ most) (sym h.counted) few;
        serves = subst (λ n. Serves (most - n) y (Err fault) z) (sym h.counted) serves;
      }
