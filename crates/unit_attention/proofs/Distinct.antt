-- Distinct known codes are at most four, and a known code that isn't pending may be added to them.
use Rattle.std.proofs.Common.{◌≡◌, if◌then◌else◌, ℕ, ◌+◌, ◌<◌, ◌≤◌, Bool, true, false, cond, List, [], ◌∷◌, ◌++◌, length, ◌⊎◌, ◌||◌, inl, inr, refl, arith}
use Rattle.std.proofs.lemmas.Bool.Decides.{nat_tests}
use Rattle.std.proofs.lemmas.List.Folds.{list_any-append}
use Rattle.unit_attention.specs.declared.code.Code.{Code}
use Rattle.unit_attention.specs.Code.{same_code, code, IsKnown}
use Rattle.unit_attention.specs.Pending.{is_pending, raised, AreKnown, AreDistinct, IsPendingList}

pub same_code-same : (a b : Code) → same_code a b ≡ true → a ≡ b
same_code-same a b same =
    let asc : a.asc ≡ b.asc = grind (arith, nat_tests) in
    let ascq : a.ascq ≡ b.ascq = grind (arith, nat_tests) in
    let parts : code a.asc a.ascq ≡ code b.asc b.ascq = cc in
    parts

pub same_code-refl : (a : Code) → same_code a a ≡ true
same_code-refl a = grind (arith, nat_tests)

pub same_code-swap : (a b : Code) → same_code a b ≡ same_code b a
same_code-swap a b = grind (arith, nat_tests)

-- 1 where the code is pending
abbrev present : List Code → Code → ℕ
present cs k = cond (is_pending cs k) 1 0

present-later : (c k : Code) (cs : List Code) → present cs k ≤ present (c ∷ cs) k
present-later c k cs = grind arith

present-first : (c k : Code) (cs : List Code) → c ≡ k → is_pending cs c ≡ false → present cs k + 1 ≤ present (c ∷ cs) k
present-first c k cs is absent =
    let here : same_code c k ≡ true = rw is (same_code-refl k) in
    let no : is_pending cs k ≡ false = rw (← is) absent in
    grind arith

-- how many of the known codes are pending
abbrev among : List Code → ℕ
among cs = present cs (code 0x29 0x00) + (present cs (code 0x29 0x03) + (present cs (code 0x29 0x07) + present cs (code 0x2a 0x09)))

one_of : {A B C D : Type 0} (a b c d : Bool) → (a ≡ true → A) → (b ≡ true → B) → (c ≡ true → C) → (d ≡ true → D) → (a || (b || (c || (d || false)))) ≡ true → A ⊎ (B ⊎ (C ⊎ D))
one_of true b c d first second third fourth one = inl (first refl)
one_of false true c d first second third fourth one = inr (inl (second refl))
one_of false false true d first second third fourth one = inr (inr (inl (third refl)))
one_of false false false true first second third fourth one = inr (inr (inr (fourth refl)))
one_of false false false false first second third fourth one = absurd cc

known_cases : (c : Code) → IsKnown c → (c ≡ code 0x29 0x00) ⊎ ((c ≡ code 0x29 0x03) ⊎ ((c ≡ code 0x29 0x07) ⊎ (c ≡ code 0x2a 0x09)))
known_cases c known =
    let first : (same_code c (code 0x29 0x00) ≡ true → c ≡ code 0x29 0x00) = same_code-same c _ in
    let second : (same_code c (code 0x29 0x03) ≡ true → c ≡ code 0x29 0x03) = same_code-same c _ in
    let third : (same_code c (code 0x29 0x07) ≡ true → c ≡ code 0x29 0x07) = same_code-same c _ in
    let fourth : (same_code c (code 0x2a 0x09) ≡ true → c ≡ code 0x2a 0x09) = same_code-same c _ in
    one_of (same_code c (code 0x29 0x00)) (same_code c (code 0x29 0x03)) (same_code c (code 0x29 0x07)) (same_code c (code 0x2a 0x09)) first second third fourth known

among-cons : (c : Code) (cs : List Code) → IsKnown c → is_pending cs c ≡ false → among cs + 1 ≤ among (c ∷ cs)
among-cons c cs known absent =
    let later : (k : Code) → present cs k ≤ present (c ∷ cs) k = λ k. present-later c k cs in
    let a : present cs (code 0x29 0x00) ≤ present (c ∷ cs) (code 0x29 0x00) = later _ in
    let b : present cs (code 0x29 0x03) ≤ present (c ∷ cs) (code 0x29 0x03) = later _ in
    let d : present cs (code 0x29 0x07) ≤ present (c ∷ cs) (code 0x29 0x07) = later _ in
    let e : present cs (code 0x2a 0x09) ≤ present (c ∷ cs) (code 0x2a 0x09) = later _ in
    elim (known_cases c known) [
      | inl is ↦ omega (arith, present-first c _ cs is absent)
      | inr others ↦ elim others [
        | inl is ↦ omega (arith, present-first c _ cs is absent)
        | inr others ↦ elim others [
          | inl is ↦ omega (arith, present-first c _ cs is absent)
          | inr is ↦ omega (arith, present-first c _ cs is absent)
        ]
      ]
    ]

length-among : (cs : List Code) → AreKnown cs → AreDistinct cs → length cs ≤ among cs
length-among [] known distinct = omega arith
length-among (c ∷ cs) known distinct =
    let rest : length cs ≤ among cs = length-among cs known.1 distinct.1 in
    omega (arith, among-cons c cs known.0 distinct.0)

among-le-four : (cs : List Code) → among cs ≤ 4
among-le-four cs = grind arith

-- there is room for a known code that isn't pending
pub has_room : (cs : List Code) (c : Code) → IsPendingList cs → IsKnown c → is_pending cs c ≡ false → length cs < 4
has_room cs c pending known absent =
    let four : among (c ∷ cs) ≤ 4 = among-le-four (c ∷ cs) in
    omega (arith, length-among cs pending.known pending.distinct, among-cons c cs known absent)

AreKnown-append : (cs : List Code) (c : Code) → AreKnown cs → IsKnown c → AreKnown (cs ++ c ∷ [])
AreKnown-append [] c known here = (here, tt)
AreKnown-append (x ∷ cs) c known here = (known.0, AreKnown-append cs c known.1 here)

AreDistinct-append : (cs : List Code) (c : Code) → AreDistinct cs → is_pending cs c ≡ false → AreDistinct (cs ++ c ∷ [])
AreDistinct-append [] c distinct absent = (refl, tt)
AreDistinct-append (x ∷ cs) c distinct absent =
    let other : same_code x c ≡ false = grind arith in
    let others : is_pending cs c ≡ false = grind arith in
    let other' : same_code c x ≡ false = rw (same_code-swap c x) other in
    let none : is_pending (cs ++ c ∷ []) x ≡ false = rw (list_any-append (λ p. same_code p x) cs (c ∷ []), distinct.0, other') refl in
    (none, AreDistinct-append cs c distinct.1 others)

-- the code may be added at the end
pub with_one_more : (cs : List Code) (c : Code) → IsPendingList cs → IsKnown c → is_pending cs c ≡ false → IsPendingList (cs ++ c ∷ [])
with_one_more cs c pending known absent = record {
  known = AreKnown-append cs c pending.known known;
  distinct = AreDistinct-append cs c pending.distinct absent;
}

pub at_most_four : (cs : List Code) → IsPendingList cs → length cs ≤ 4
at_most_four cs pending = omega (arith, length-among cs pending.known pending.distinct, among-le-four cs)

pub raised-pending : (cs : List Code) (c : Code) → IsKnown c → IsPendingList cs → IsPendingList (raised cs c)
raised-pending cs c known pending = either (is_pending cs c) refl
  where
    either : (b : Bool) → is_pending cs c ≡ b → IsPendingList (if b then cs else (cs ++ c ∷ []))
    either true is = pending
    either false is = with_one_more cs c pending known is
