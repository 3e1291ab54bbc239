-- Slots that are cut off at a number.
use Rattle.std.proofs.Common.{◌≡◌, ◌≢◌, ℕ, zero, suc, ◌+◌, ◌*◌, ◌/◌, ◌%◌, ◌<◌, ◌≤◌, true, false, nat_lt, inl, inr, List, [], ◌∷◌, Some, None, length, take, set, get_or, slice_get, if◌then◌else◌, refl, sym, ◌∙◌, ap, arith}
use Rattle.std.proofs.lemmas.Grind.{common_steps}
use Rattle.std.proofs.lemmas.Option.{gets, slice_get_past, slice_get_read}
use Rattle.std.proofs.lemmas.Nat.{div-add-mod'}
use Rattle.std.proofs.lemmas.Bool.{cases_eq}
use Rattle.std.proofs.lemmas.Bool.Decides.{nat_tests, leb_tells}
use Rattle.block_store.specs.Tables.{in_slots}

pub get-set-same : {T : Type 0} (l : List T) (i : ℕ) (x y : T) → slice_get l i ≡ Some y → slice_get (set l i x) i ≡ Some x
get-set-same l i x y there = grind (arith, common_steps, gets)

pub get-set-other : {T : Type 0} (l : List T) (i j : ℕ) (x : T) → j ≢ i → slice_get (set l i x) j ≡ slice_get l j
get-set-other [] i j x apart = refl
get-set-other (y ∷ ys) zero zero x apart = absurd (apart refl)
get-set-other (y ∷ ys) zero (suc j) x apart = refl
get-set-other (y ∷ ys) (suc i) zero x apart = refl
get-set-other (y ∷ ys) (suc i) (suc j) x apart = get-set-other ys i j x (λ same. apart (ap suc same))

pub get-take : {T : Type 0} (l : List T) (n j : ℕ) → j < n → slice_get (take n l) j ≡ slice_get l j
get-take [] n j below = grind (arith, common_steps)
get-take (y ∷ ys) zero j below = absurd (omega arith)
get-take (y ∷ ys) (suc n) zero below = refl
get-take (y ∷ ys) (suc n) (suc j) below = get-take ys n j (omega arith)

pub get-take-past : {T : Type 0} (l : List T) (n j : ℕ) → n ≤ j → slice_get (take n l) j ≡ None
get-take-past l n j past = slice_get_past (take n l) j (grind (arith, common_steps))

-- the order of two numbers by their parts
pub lower-slot : (rows m end : ℕ) → m / rows < end / rows → 0 < rows → m < end
lower-slot rows m end low some = grind (arith, common_steps)

pub same-slot : (rows m end : ℕ) → 0 < rows → m / rows ≡ end / rows → nat_lt m end ≡ nat_lt (m % rows) (end % rows)
same-slot rows m end some same =
    let left : m / rows * rows + m % rows ≡ m = div-add-mod' m rows in
    let right : end / rows * rows + end % rows ≡ end = div-add-mod' end rows in
    let both : m / rows * rows ≡ end / rows * rows = ap (λ q. q * rows) same in
    grind (arith, nat_tests)

-- a slot that is cut, and those behind it
pub cut-slots : {T A : Type 0} (rows : ℕ) (at : T → ℕ → A) (none : A) (slots : List T) (end : ℕ) (old new : T) → 0 < rows →
    slice_get slots (end / rows) ≡ Some old →
    ((m : ℕ) → at new (m % rows) ≡ (if nat_lt (m % rows) (end % rows) then at old (m % rows) else none)) →
    (m : ℕ) → in_slots rows at none (set (take (end / rows + 1) slots) (end / rows) new) m ≡ (if nat_lt m end then in_slots rows at none slots m else none)
cut-slots {T} {A} rows at none slots end old new some found cut m =
    elim (leb_tells (m / rows) (end / rows)) [
      | inl low ↦ elim (cases_eq (m / rows) (end / rows)) [
        | inl same ↦ here same
        | inr apart ↦ before (omega (arith, low.1, apart))
      ]
      | inr past ↦ behind past.1
    ]
  where
    kept : List T
    kept = take (end / rows + 1) slots

    here : m / rows ≡ end / rows → in_slots rows at none (set kept (end / rows) new) m ≡ (if nat_lt m end then in_slots rows at none slots m else none)
    here same =
        let now : slice_get (set kept (end / rows) new) (m / rows) ≡ Some new =
        ap (λ i. slice_get (set kept (end / rows) new) i) same ∙ get-set-same kept (end / rows) new old (get-take slots (end / rows + 1) (end / rows) (omega arith) ∙ found) in
        let was : slice_get slots (m / rows) ≡ Some old = ap (λ i. slice_get slots i) same ∙ found in
        rw (now, was, same-slot rows m end some same) (cut m)

    before : m / rows < end / rows → in_slots rows at none (set kept (end / rows) new) m ≡ (if nat_lt m end then in_slots rows at none slots m else none)
    before low =
        let below : nat_lt m end ≡ true = let l : m < end = lower-slot rows m end low some in grind (arith, nat_tests) in
        let now : slice_get (set kept (end / rows) new) (m / rows) ≡ slice_get slots (m / rows) =
        get-set-other kept (end / rows) (m / rows) new (λ e. absurd (omega arith)) ∙ get-take slots (end / rows + 1) (m / rows) (omega arith) in
        rw (below, now) refl

    behind : end / rows < m / rows → in_slots rows at none (set kept (end / rows) new) m ≡ (if nat_lt m end then in_slots rows at none slots m else none)
    behind high =
        let above : nat_lt m end ≡ false = let l : end < m = lower-slot rows end m high some in grind (arith, nat_tests) in
        let now : slice_get (set kept (end / rows) new) (m / rows) ≡ None =
        get-set-other kept (end / rows) (m / rows) new (λ e. absurd (omega arith)) ∙ get-take-past slots (end / rows + 1) (m / rows) (omega arith) in
        rw (above, now) refl

-- where there are no slots from there on
pub cut-none : {T A : Type 0} (rows : ℕ) (at : T → ℕ → A) (none : A) (slots : List T) (end : ℕ) → 0 < rows → length slots ≤ end / rows →
    (m : ℕ) → in_slots rows at none slots m ≡ (if nat_lt m end then in_slots rows at none slots m else none)
cut-none rows at none slots end some short m =
    elim (leb_tells end m) [
      | inl past ↦
          let above : nat_lt m end ≡ false = let l = past.1 in grind (arith, nat_tests) in
          let now : slice_get slots (m / rows) ≡ None = slice_get_past slots (m / rows) (at_least past.1) in
          rw (above, now) refl
      | inr low ↦ let below : nat_lt m end ≡ true = let l = low.1 in grind (arith, nat_tests) in rw below refl
    ]
  where
    at_least : end ≤ m → length slots ≤ m / rows
    at_least past =
        elim (leb_tells (end / rows) (m / rows)) [
          | inl high ↦ let h = high.1 in omega arith
          | inr low ↦ let l = lower-slot rows m end low.1 some in absurd (omega arith)
        ]

-- the same, as a table does it
pub cut-at : {T A : Type 0} (rows r r' : ℕ) (at : T → ℕ → A) (none : A) (slots kept : List T) (end : ℕ) (old new : T) → 0 < rows → r ≡ rows → r' ≡ rows →
    kept ≡ take (end / r + 1) slots → end / r < length slots → old ≡ get_or kept (end / r) old →
    ((m : ℕ) → at new (m % rows) ≡ (if nat_lt (m % rows) (end % r') then at old (m % rows) else none)) →
    (m : ℕ) → in_slots rows at none (set kept (end / r) new) m ≡ (if nat_lt m end then in_slots rows at none slots m else none)
cut-at rows r r' at none slots kept end old new some r_is r'_is kept_is there old_is cut m =
    let k : kept ≡ take (end / rows + 1) slots = rw r_is at kept_is in
    let o : old ≡ get_or kept (end / rows) old = rw r_is at old_is in
    let i : end / rows < length slots = rw r_is at there in
    let found : slice_get slots (end / rows) ≡ Some old =
    sym (get-take slots (end / rows + 1) (end / rows) (omega arith)) ∙ ap (λ l. slice_get l (end / rows)) (sym k)
    ∙ slice_get_read kept (length kept) (end / rows) old refl (let len = ap length k in grind (arith, common_steps)) o in
    let c : ((m : ℕ) → at new (m % rows) ≡ (if nat_lt (m % rows) (end % rows) then at old (m % rows) else none)) = λ m. rw r'_is at (cut m) in
    rw (r_is, k) (cut-slots rows at none slots end old new some found c m)
