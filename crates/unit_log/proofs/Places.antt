-- A step by its place: in a list with the newest first, and in the order in which steps came.
use Rattle.std.proofs.Common.{◌≡◌, ℕ, zero, suc, ◌+◌, ◌<◌, ◌≤◌, Bool, true, false, eqb, nat_lt, cond, List, [], ◌∷◌, ◌++◌, length, take, drop, reverse, map, slice_get, Option, Some, None, inl, inr, refl, sym, ◌∙◌, ap, subst, arith, eq-eqb}
use Rattle.std.specs.Option.{option_map}
use Rattle.std.proofs.lemmas.List.{length-reverse, reverse-reverse, reverse-append, length-map}
use Rattle.std.proofs.lemmas.Bool.{eqb-true, ltb-true, ltb-false}
use Rattle.std.proofs.lemmas.Option.{slice_get-map}
use Rattle.unit_model.specs.Steps.{Step}
use Rattle.unit_model.specs.Clearing.{rule_at, rule_of}
use Rattle.unit_model.specs.Receipts.{step_at}
use Rattle.unit_model.specs.declared.rule.Rule.{Rule}
use Rattle.unit_log.specs.declared.kind.StepKind.{StepKind}
use Rattle.unit_log.specs.declared.recorded.RecordedStep.{RecordedStep}
use Rattle.unit_log.specs.Kept.{kind_of}
use Rattle.unit_log.specs.Inner.Kept.{met_kind}
use Rattle.unit_log.specs.Inner.Folding.{met_one}
use Rattle.unit_log.specs.Recorded.{step_recorded, steps_recorded}
use Rattle.unit_log.specs.Inner.Recorded.{kinds_recorded, AreFirst, Tells}

unlike : false ≡ true → ⊥
unlike e = cc

pub push_here : {X : Type 0} (xs : List X) (y : X) → slice_get (xs ++ y ∷ []) (length xs) ≡ Some y
push_here [] y = refl
push_here (x ∷ xs) y = push_here xs y

pub push_other : {X : Type 0} (xs : List X) (y : X) (k : ℕ) → (length xs ≡ k → ⊥) → slice_get (xs ++ y ∷ []) k ≡ slice_get xs k
push_other [] y zero other = absurd (other refl)
push_other [] y (suc k) other = refl
push_other (x ∷ xs) y zero other = refl
push_other (x ∷ xs) y (suc k) other = push_other xs y k (λ e. other (ap suc e))

pub push_get : {X : Type 0} (xs : List X) (y : X) (k : ℕ) → slice_get (xs ++ y ∷ []) k ≡ cond (eqb (length xs) k) (Some y) (slice_get xs k)
push_get xs y k =
    (elim (eqb (length xs) k) as (λ b. eqb (length xs) k ≡ b → slice_get (xs ++ y ∷ []) k ≡ cond b (Some y) (slice_get xs k)) [
      | true ↦ λ e. subst (λ n. slice_get (xs ++ y ∷ []) n ≡ Some y) (eqb-true (length xs) k e) (push_here xs y)
      | false ↦ λ e. push_other xs y k (λ same. unlike (sym e ∙ eq-eqb (length xs) k same))
    ]) refl

map_cond : {X Y : Type 0} (f : X → Y) (b : Bool) (x : X) (o : Option X) → option_map f (cond b (Some x) o) ≡ cond b (Some (f x)) (option_map f o)
map_cond f true x o = refl
map_cond f false x o = refl

newest : (place : ℕ) (h : List RecordedStep) → step_at place (map step_recorded h) ≡ option_map step_recorded (slice_get (reverse h) place)
newest place [] = refl
newest place (s ∷ past) =
    ap (λ n. cond (eqb n place) (Some (step_recorded s)) (step_at place (map step_recorded past))) (length-map past step_recorded ∙ sym (length-reverse past))
    ∙ ap (λ w. cond (eqb (length (reverse past)) place) (Some (step_recorded s)) w) (newest place past)
    ∙ sym (map_cond step_recorded (eqb (length (reverse past)) place) s (slice_get (reverse past) place))
    ∙ ap (option_map step_recorded) (sym (push_get (reverse past) s place))
    ∙ ap (λ w. option_map step_recorded (slice_get w place)) (sym (reverse-append (s ∷ []) past))

pub at_place : (place : ℕ) (xs : List RecordedStep) → step_at place (steps_recorded xs) ≡ option_map step_recorded (slice_get xs place)
at_place place xs = newest place (reverse xs) ∙ ap (λ w. option_map step_recorded (slice_get w place)) (reverse-reverse xs)

composed : (o : Option RecordedStep) → option_map (λ (s : RecordedStep). kind_of (step_recorded s)) o ≡ option_map kind_of (option_map step_recorded o)
composed None = refl
composed (Some s) = refl

-- the kind of the step at a place, by what is kept
pub kind_there : (place : ℕ) (kinds : List StepKind) (xs : List RecordedStep) → kinds ≡ kinds_recorded xs → slice_get kinds place ≡ option_map kind_of (step_at place (steps_recorded xs))
kind_there place kinds xs e =
    ap (λ w. slice_get w place) e
    ∙ slice_get-map (λ (s : RecordedStep). kind_of (step_recorded s)) xs place
    ∙ composed (slice_get xs place)
    ∙ ap (option_map kind_of) (sym (at_place place xs))

pub drop_get : {X : Type 0} (k : ℕ) (xs : List X) (i j : ℕ) → k + i ≡ j → slice_get (drop k xs) i ≡ slice_get xs j
drop_get zero xs i j e = ap (slice_get xs) (omega (arith, e))
drop_get (suc k) [] i j e = refl
drop_get (suc k) (x ∷ xs) i zero e = absurd (omega (arith, e))
drop_get (suc k) (x ∷ xs) i (suc j) e = drop_get k xs i j (omega (arith, e))

take_get : {X : Type 0} (n : ℕ) (xs : List X) (i : ℕ) → i < n → slice_get (take n xs) i ≡ slice_get xs i
take_get zero xs i below = absurd (omega (arith, below))
take_get (suc n) [] i below = refl
take_get (suc n) (x ∷ xs) zero below = refl
take_get (suc n) (x ∷ xs) (suc i) below = take_get n xs i (omega (arith, below))

-- and of one that is folded
pub kind_folded : (place : ℕ) (folded kinds : List StepKind) (xs : List RecordedStep) → kinds ≡ kinds_recorded xs → AreFirst folded kinds → place < length folded
    → slice_get folded place ≡ option_map kind_of (step_at place (steps_recorded xs))
kind_folded place folded kinds xs are first below =
    ap (λ w. slice_get w place) first
    ∙ take_get (length folded) kinds place below
    ∙ kind_there place kinds xs are

met_by_kind : (s : Step) → met_kind (kind_of s) ≡ rule_of s
met_by_kind (Step.Enter e) = refl
met_by_kind (Step.Full t) = refl
met_by_kind (Step.Commit t r) = refl
met_by_kind (Step.Busy t) = refl
met_by_kind (Step.Abort rule) = refl
met_by_kind (Step.Reset c) = refl
met_by_kind (Step.Resize blocks) = refl
met_by_kind (Step.Leave t) = refl

pub rule_there : (place : ℕ) (h : List Step) → met_one (option_map kind_of (step_at place h)) ≡ rule_at place h
rule_there place [] = refl
rule_there place (s ∷ past) =
    elim (eqb (length past) place) as (λ b. met_one (option_map kind_of (cond b (Some s) (step_at place past))) ≡ cond b (rule_of s) (rule_at place past)) [
      | true ↦ met_by_kind s
      | false ↦ rule_there place past
    ]

-- a place is kept or folded
pub kept_place : {X : Type 0} (place base : ℕ) (o : Option X) → base ≤ place → cond (nat_lt place base) None o ≡ o
kept_place place base o le =
    (elim (nat_lt place base) as (λ b. nat_lt place base ≡ b → cond b None o ≡ o) [
      | true ↦ λ e. absurd (let h = ltb-true place base e in omega (arith, h, le))
      | false ↦ λ e. refl
    ]) refl

pub folded_place : {X : Type 0} (place base : ℕ) (o : Option X) → place < base → None ≡ cond (nat_lt place base) None o
folded_place place base o lt =
    (elim (nat_lt place base) as (λ b. nat_lt place base ≡ b → None ≡ cond b None o) [
      | true ↦ λ e. refl
      | false ↦ λ e. absurd (let h = ltb-false place base e in omega (arith, h, lt))
    ]) refl

-- what is told of a step, and of one that is folded
pub tells_is : (f place : ℕ) (steps : List Step) (r : Option Rule) → r ≡ rule_at place steps → Tells f place steps r
tells_is f place steps None is = inl (sym is)
tells_is f place steps (Some rule) is = sym is

pub tells_folded : (f place : ℕ) (steps : List Step) (r o : Option Rule) → o ≡ rule_at place steps → r ≡ cond (nat_lt place f) None o → Tells f place steps r
tells_folded f place steps r o is as_told =
    (elim (nat_lt place f) as (λ b. nat_lt place f ≡ b → r ≡ cond b None o → Tells f place steps r) [
      | true ↦ λ e k. subst (Tells f place steps) (sym k) (inr (ltb-true place f e))
      | false ↦ λ e k. tells_is f place steps r (k ∙ is)
    ]) refl as_told
