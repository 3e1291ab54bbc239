-- Runs of the device by a list of events.
use Rattle.std.proofs.Common.{◌≡◌, ℕ, zero, suc, ◌+◌, Bool, true, false, if◌then◌else◌, List, [], ◌∷◌, ◌++◌, map, take, Some, refl, sym, ap, true≢false, ◌∙◌, arith}
use Rattle.std.specs.Prelude.{slice_get, reverse}
use Rattle.std.proofs.lemmas.List.{map-append, reverse-append}
use Rattle.device_model.specs.World.{PlainWorld}
use Rattle.device_model.specs.Events.{plain_event}
use Rattle.device_model.specs.declared.event.Event as declared
use Rattle.device_model.specs.Turns.{IsStep, count_changes}
use Rattle.device_model.proofs.Lists.{nothing, same}
use Rattle.world.specs.Steps.{IsRun, events_of}

-- one item more
take_suc : {X : Type 0} (n : ℕ) (xs : List X) (x : X) → slice_get xs n ≡ Some x → take (suc n) xs ≡ take n xs ++ x ∷ []
take_suc n [] x e = absurd (nothing e)
take_suc zero (y ∷ xs) x e = ap (λ z. z ∷ []) (same e)
take_suc (suc n) (y ∷ xs) x e = ap (λ zs. y ∷ zs) (take_suc n xs x e)

next_number : (n : ℕ) → n + 1 ≡ suc n
next_number n = omega arith

pub take_next : {X : Type 0} (n : ℕ) (xs : List X) (x : X) → slice_get xs n ≡ Some x → take (n + 1) xs ≡ take n xs ++ x ∷ []
take_next n xs x e = ap (λ k. take k xs) (next_number n) ∙ take_suc n xs x e

-- one event more
pub events_next : (xs : List declared.Event) (e : declared.Event) → events_of (xs ++ e ∷ []) ≡ plain_event e ∷ events_of xs
events_next xs e =
    ap (λ ys. reverse ys) (map-append plain_event xs (e ∷ []))
    ∙ reverse-append (map plain_event xs) (plain_event e ∷ [])

abbrev pub bit : Bool → ℕ
bit b = if b then 1 else 0

-- what an action counts beside those before it
pub count_on : (c b : Bool) (k n : ℕ) → c ≡ b → k ≡ n → (if c then 1 else 0) + k ≡ n + bit b
count_on true true k n e f = omega (arith, f)
count_on false false k n e f = omega (arith, f)
count_on true false k n e f = absurd (true≢false e)
count_on false true k n e f = absurd (true≢false (sym e))

-- an event more
pub run_on : (w v : PlainWorld) (xs : List declared.Event) (n : ℕ) (e : declared.Event) (b : Bool) (u : PlainWorld)
    → IsRun w xs n v → IsStep v (plain_event e) b u → IsRun w (xs ++ e ∷ []) (n + bit b) u
run_on w v xs n e b u r s =
    record {
      trace = record { event = plain_event e; action = s.action } ∷ r.trace;
      runs = (v, r.runs, s.step);
      told = ap (λ ys. plain_event e ∷ ys) r.told ∙ sym (events_next xs e);
      counted = count_on s.action.changed b (count_changes r.trace) n s.told r.counted;
    }

-- nothing ran yet
pub run_none : (w : PlainWorld) → IsRun w [] 0 w
run_none w = record { trace = []; runs = refl; told = refl; counted = refl }

-- what a step counts, where it changed something and where not
pub counts_one : (n m : ℕ) (b : Bool) → b ≡ true → m ≡ n + 1 → n + bit b ≡ m
counts_one n m true on e = sym e
counts_one n m false on e = absurd (true≢false (sym on))

pub counts_none : (n m : ℕ) (b : Bool) → b ≡ false → m ≡ n → n + bit b ≡ m
counts_none n m true off e = absurd (true≢false off)
counts_none n m false off e = omega (arith, e)
