-- Runs of Commits: one more, and where a Commit is looked for.
use Rattle.std.proofs.Common.{◌≡◌, ℕ, zero, suc, ◌+◌, ◌-◌, ◌*◌, ◌/◌, ◌^◌, ◌<◌, ◌≤◌, ◌⊎◌, IsTrue, eqb, eq-eqb, true, false, nat_le, nat_lt, List, [], ◌∷◌, ◌++◌, length, get_or, set, Option, Some, None, inl, inr, refl, sym, ◌∙◌, ap, arith}
use Rattle.std.proofs.lemmas.Bool.{eqb-true, le-leb, leb-true, ltb-true, ltb-false}
use Rattle.std.proofs.lemmas.Nat.{div-mul-add}
use Rattle.std.specs.List.Sorted.{IsPartitionedBy, IsPartitionPoint}
use Rattle.unit_log.specs.declared.runs.Run.{Run}
use Rattle.unit_log.specs.Inner.Runs.{OnRun, InRuns, AreRising, AreNumbered, AreBefore, OneMore, Extends, FindsOn, FindsIn, last_place, last_number}

times_none : (k x : ℕ) → k ≡ 0 → k * x ≡ 0
times_none k x e = ap (λ w. w * x) e ∙ omega arith

times_one : (k x : ℕ) → k ≡ 1 → k * x ≡ x
times_one k x e = ap (λ w. w * x) e ∙ omega arith

times_less : (k m x : ℕ) → k ≤ m → k * x ≤ m * x
times_less zero m x le = omega arith
times_less (suc k) zero x le = absurd (omega (arith, le))
times_less (suc k) (suc m) x le = let h = times_less k m x (omega (arith, le)) in omega (arith, h)

pub within_run : (p n : ℕ) (r : Run) → OnRun p n r → (r.place ≤ p) × (p ≤ last_place r)
within_run p n r on = let less = times_less on.0 r.more r.by_place on.1 in let at = on.2 in (omega (arith, at), omega (arith, at, less))

unlike : false ≡ true → ⊥
unlike e = cc

leb_above : (a b : ℕ) → nat_le a b ≡ false → b < a
leb_above a b e =
    (elim (nat_lt b a) as (λ c. nat_lt b a ≡ c → b < a) [
      | true ↦ λ h. ltb-true b a h
      | false ↦ λ h. absurd (let le = ltb-false b a h in let t = le-leb a b le in unlike (sym e ∙ t))
    ]) refl

leb_none : (k : ℕ) → nat_le 1 k ≡ false → k ≡ 0
leb_none k e = let h = leb_above 1 k e in omega (arith, h)

-- One more Commit of a run:
pub first_is : (place number : ℕ) (r : Run) → r.place ≡ place → r.number ≡ number → r.more ≡ 0 → OneMore (λ p n. ⊥) place number (λ p n. OnRun p n r)
first_is place number r at of none = λ p n. (
  λ on.
      let k : on.0 ≡ 0 = (let le = on.1 in omega (arith, le, none)) in
      let a = times_none on.0 r.by_place k in let b = times_none on.0 r.by_number k in
      let x = on.2 in let y = on.3 in inr (omega (arith, x, a, at), omega (arith, y, b, of)),
  λ is. elim is as (λ w. OnRun p n r) [
    | inl nil ↦ absurd nil
    | inr it ↦ let x = it.0 in let y = it.1 in (0, omega arith, omega (arith, x, at), omega (arith, y, of))
  ],
)

pub second_is : (place number : ℕ) (r r' : Run) → r.more ≡ 0 → r'.more ≡ 1 → r'.place ≡ r.place → r'.number ≡ r.number → r'.place + r'.by_place ≡ place
    → r'.number + r'.by_number ≡ number → 0 < r'.by_place → Extends r place number r'
second_is place number r r' none one same_place same_number to_place to_number strides =
    record {
      first = same_place;
      strides = strides;
      ends = (let t = times_one r'.more r'.by_place one in omega (arith, t, to_place));
      last = (let t = times_one r'.more r'.by_number one in omega (arith, t, to_number));
      more = λ p n. (
        λ on.
            let x = on.2 in let y = on.3 in let le = on.1 in
            (elim (nat_le 1 on.0) as (λ b. nat_le 1 on.0 ≡ b → OnRun p n r ⊎ ((p ≡ place) × (n ≡ number))) [
              | true ↦ λ e.
                  let k : on.0 ≡ 1 = (let h = leb-true 1 on.0 e in omega (arith, h, le, one)) in
                  let a = times_one on.0 r'.by_place k in let b = times_one on.0 r'.by_number k in
                  inr (omega (arith, x, a, to_place), omega (arith, y, b, to_number))
              | false ↦ λ e.
                  let k : on.0 ≡ 0 = leb_none on.0 e in
                  let a = times_none on.0 r'.by_place k in let b = times_none on.0 r'.by_number k in
                  inl (0, omega arith, omega (arith, x, a, same_place), omega (arith, y, b, same_number))
            ]) refl,
        λ is. elim is as (λ w. OnRun p n r') [
          | inl on ↦
              let k : on.0 ≡ 0 = (let le = on.1 in omega (arith, le, none)) in
              let a = times_none on.0 r.by_place k in let b = times_none on.0 r.by_number k in
              let x = on.2 in let y = on.3 in
              (0, omega arith, omega (arith, x, a, same_place), omega (arith, y, b, same_number))
          | inr it ↦ let x = it.0 in let y = it.1 in (1, omega (arith, one), omega (arith, x, to_place), omega (arith, y, to_number))
        ],
      );
    }

-- the next by the strides
pub next_is : (place number : ℕ) (r r' : Run) → 0 < r.by_place → r'.more ≡ r.more + 1 → r'.place ≡ r.place → r'.number ≡ r.number → r'.by_place ≡ r.by_place
    → r'.by_number ≡ r.by_number → r.place + r'.more * r.by_place ≡ place → r.number + r'.more * r.by_number ≡ number → Extends r place number r'
next_is place number r r' strides more same_place same_number same_by same_by_number to_place to_number =
    let by = (λ (k : ℕ). ap (λ w. k * w) same_by) in
    let by_number = (λ (k : ℕ). ap (λ w. k * w) same_by_number) in
    record {
      first = same_place;
      strides = omega (arith, strides, same_by);
      ends = (let t = by r'.more in omega (arith, t, to_place, same_place));
      last = (let t = by_number r'.more in omega (arith, t, to_number, same_number));
      more = λ p n. (
        λ on.
            let x = on.2 in let y = on.3 in let le = on.1 in
            let a = by on.0 in let b = by_number on.0 in
            (elim (nat_le on.0 r.more) as (λ b. nat_le on.0 r.more ≡ b → OnRun p n r ⊎ ((p ≡ place) × (n ≡ number))) [
              | true ↦ λ e. inl (on.0, leb-true on.0 r.more e, omega (arith, x, a, same_place), omega (arith, y, b, same_number))
              | false ↦ λ e.
                  let k : on.0 ≡ r'.more = (let h = leb_above on.0 r.more e in omega (arith, h, le, more)) in
                  let c = ap (λ w. w * r.by_place) k in let d = ap (λ w. w * r.by_number) k in
                  inr (omega (arith, x, a, c, to_place, same_place), omega (arith, y, b, d, to_number, same_number))
            ]) refl,
        λ is. elim is as (λ w. OnRun p n r') [
          | inl on ↦
              let x = on.2 in let y = on.3 in let le = on.1 in
              let a = by on.0 in let b = by_number on.0 in
              (on.0, omega (arith, le, more), omega (arith, x, a, same_place), omega (arith, y, b, same_number))
          | inr it ↦
              let x = it.0 in let y = it.1 in let a = by r'.more in let b = by_number r'.more in
              (r'.more, omega arith, omega (arith, x, a, to_place, same_place), omega (arith, y, b, to_number, same_number))
        ],
      );
    }

-- Whether a Commit is on a run:
steps_are : (p n : ℕ) (r : Run) (on : OnRun p n r) → 0 < r.by_place → (p - r.place) / r.by_place ≡ on.0
steps_are p n r on strides =
    let at = on.2 in
    ap (λ x. x / r.by_place) (let e : p - r.place ≡ on.0 * r.by_place + 0 = omega (arith, at) in e) ∙ div-mul-add on.0 r.by_place 0 strides

pub on_where : (p n k t : ℕ) (r : Run) → 0 < r.by_place → r.place ≤ p → r.number ≤ n → k ≡ (p - r.place) / r.by_place → k ≤ r.more → k * r.by_place ≡ p - r.place
    → t ≡ k * r.by_number → (IsTrue (eqb t (n - r.number)) → OnRun p n r) × (OnRun p n r → IsTrue (eqb t (n - r.number)))
on_where p n k t r strides a b is few beyond t_is = (
  λ same. (k, few, omega (arith, a, beyond), (let e = eqb-true t (n - r.number) same in omega (arith, b, t_is, e))),
  λ on.
      let s = ap (λ x. x * r.by_number) (is ∙ steps_are p n r on strides) in
      let at = on.3 in
      eq-eqb t (n - r.number) (omega (arith, t_is, s, at)),
)

pub on_nowhere : (p n k t : ℕ) (r : Run) → 0 < r.by_place → k ≡ (p - r.place) / r.by_place → t ≡ k * r.by_place → (t ≡ p - r.place → ⊥)
    → (IsTrue (eqb t (p - r.place)) → OnRun p n r) × (OnRun p n r → IsTrue (eqb t (p - r.place)))
on_nowhere p n k t r strides is t_is off = (
  λ same. absurd (off (eqb-true t (p - r.place) same)),
  λ on.
      let s = ap (λ x. x * r.by_place) (is ∙ steps_are p n r on strides) in
      let at = on.2 in
      eq-eqb t (p - r.place) (omega (arith, t_is, s, at)),
)

-- Which Commit stands at a place:
pub on_there : (p k : ℕ) (r : Run) → r.place ≤ p → k ≤ r.more → k * r.by_place ≡ p - r.place → OnRun p (r.number + k * r.by_number) r
on_there p k r a few beyond = (k, few, omega (arith, a, beyond), refl)

pub none_before : (p : ℕ) (r : Run) → p < r.place → FindsOn p r None
none_before p r lt = λ n on. (let w = (within_run p n r on).0 in absurd (omega (arith, w, lt)))

pub none_behind : (p k : ℕ) (r : Run) → 0 < r.by_place → k ≡ (p - r.place) / r.by_place → r.more < k → FindsOn p r None
none_behind p k r strides is lt = λ n on. (let s = steps_are p n r on strides in let le = on.1 in absurd (omega (arith, s, is, le, lt)))

pub none_beside : (p k t : ℕ) (r : Run) → 0 < r.by_place → k ≡ (p - r.place) / r.by_place → t ≡ k * r.by_place → (t ≡ p - r.place → ⊥) → FindsOn p r None
none_beside p k t r strides is t_is off = λ n on.
    let s = ap (λ x. x * r.by_place) (is ∙ steps_are p n r on strides) in
    let at = on.2 in
    off (omega (arith, t_is, s, at))

pub number_fits : (k : ℕ) (r : Run) → k ≤ r.more → last_number r < 2 ^ 64 → r.number + k * r.by_number < 2 ^ 64
number_fits k r le fits = let h = times_less k r.more r.by_number le in omega (arith, h, fits)

-- Where a Commit is looked for:
rising_at : (low : ℕ) (runs : List Run) (i : ℕ) (d : Run) → AreRising low runs → i < length runs → low ≤ (get_or runs i d).place
rising_at low [] i d a below = absurd (omega (arith, below))
rising_at low (r ∷ runs) zero d a below = a.0
rising_at low (r ∷ runs) (suc i) d a below =
    let rest = rising_at (last_place r + 1) runs i d a.2 (omega (arith, below)) in
    let le = a.0 in omega (arith, le, rest)

pub stride_at : (low : ℕ) (runs : List Run) (i : ℕ) (d : Run) → AreRising low runs → i < length runs → 0 < (get_or runs i d).by_place
stride_at low [] i d a below = absurd (omega (arith, below))
stride_at low (r ∷ runs) zero d a below = a.1
stride_at low (r ∷ runs) (suc i) d a below = stride_at (last_place r + 1) runs i d a.2 (omega (arith, below))

pub places_rise : (low : ℕ) (runs : List Run) (i j : ℕ) (d : Run) → AreRising low runs → i ≤ j → j < length runs → (get_or runs i d).place ≤ (get_or runs j d).place
places_rise low [] i j d a le below = absurd (omega (arith, below))
places_rise low (r ∷ runs) zero zero d a le below = omega arith
places_rise low (r ∷ runs) zero (suc j) d a le below =
    let rest = rising_at (last_place r + 1) runs j d a.2 (omega (arith, below)) in omega (arith, rest)
places_rise low (r ∷ runs) (suc i) zero d a le below = absurd (omega (arith, le))
places_rise low (r ∷ runs) (suc i) (suc j) d a le below = places_rise (last_place r + 1) runs i j d a.2 (omega (arith, le)) (omega (arith, below))

in_none : (p n : ℕ) (runs : List Run) (d : Run) → ((k : ℕ) → k < length runs → p < (get_or runs k d).place) → InRuns p n runs → ⊥
in_none p n [] d later found = found
in_none p n (r ∷ runs) d later (inl on) = let h = later 0 (omega arith) in let w = (within_run p n r on).0 in omega (arith, h, w)
in_none p n (r ∷ runs) d later (inr found) = in_none p n runs d (λ k below. later (suc k) (omega (arith, below))) found

pub found_at : (p n low : ℕ) (runs : List Run) (i : ℕ) (d : Run) → AreRising low runs → i < length runs → (get_or runs i d).place ≤ p
    → ((k : ℕ) → i < k → k < length runs → p < (get_or runs k d).place) → InRuns p n runs → OnRun p n (get_or runs i d)
found_at p n low [] i d a below here later found = absurd found
found_at p n low (r ∷ runs) zero d a below here later (inl on) = on
found_at p n low (r ∷ runs) zero d a below here later (inr found) =
    absurd (in_none p n runs d (λ k le. later (suc k) (omega arith) (omega (arith, le))) found)
found_at p n low (r ∷ runs) (suc i) d a below here later (inl on) =
    absurd (
    let rest = rising_at (last_place r + 1) runs i d a.2 (omega (arith, below)) in
    let w = (within_run p n r on).1 in omega (arith, rest, w, here)
    )
found_at p n low (r ∷ runs) (suc i) d a below here later (inr found) =
    found_at p n (last_place r + 1) runs i d a.2 (omega (arith, below)) here (λ k lt le. later (suc k) (omega (arith, lt)) (omega (arith, le))) found

pub none_found : (p n : ℕ) (runs : List Run) (d : Run) → ((k : ℕ) → k < length runs → p < (get_or runs k d).place) → InRuns p n runs → ⊥
none_found p n runs d later found = in_none p n runs d later found

pub in_at : (p n : ℕ) (runs : List Run) (i : ℕ) (d : Run) → i < length runs → OnRun p n (get_or runs i d) → InRuns p n runs
in_at p n [] i d below on = absurd (omega (arith, below))
in_at p n (r ∷ runs) zero d below on = inl on
in_at p n (r ∷ runs) (suc i) d below on = inr (in_at p n runs i d (omega (arith, below)) on)

pub number_at_fits : (runs : List Run) (i : ℕ) (d : Run) → AreNumbered runs → i < length runs → last_number (get_or runs i d) < 2 ^ 64
number_at_fits [] i d a below = absurd (omega (arith, below))
number_at_fits (r ∷ runs) zero d a below = a.0
number_at_fits (r ∷ runs) (suc i) d a below = number_at_fits runs i d a.1 (omega (arith, below))

-- One more Commit of runs: as a run of its own
pub numbered_push : (runs : List Run) (r : Run) → AreNumbered runs → last_number r < 2 ^ 64 → AreNumbered (runs ++ r ∷ [])
numbered_push [] r a fits = (fits, tt)
numbered_push (x ∷ runs) r a fits = (a.0, numbered_push runs r a.1 fits)

pub rising_push : (low : ℕ) (runs : List Run) (r : Run) → AreRising low runs → AreBefore r.place runs → low ≤ r.place → 0 < r.by_place → AreRising low (runs ++ r ∷ [])
rising_push low [] r a b le strides = (le, strides, tt)
rising_push low (x ∷ runs) r a b le strides =
    (a.0, a.1, rising_push (last_place x + 1) runs r a.2 b.1 (let h = b.0 in omega (arith, h)) strides)

before_more : (p q : ℕ) (runs : List Run) → p ≤ q → AreBefore p runs → AreBefore q runs
before_more p q [] le b = tt
before_more p q (r ∷ runs) le b = (let h = b.0 in omega (arith, h, le), before_more p q runs le b.1)

pub before_push : (p : ℕ) (runs : List Run) (r : Run) → AreBefore p runs → last_place r ≡ p → AreBefore (p + 1) (runs ++ r ∷ [])
before_push p [] r b is = (omega (arith, is), tt)
before_push p (x ∷ runs) r b is = (let h = b.0 in omega (arith, h), before_push p runs r b.1 is)

pub more_push : (place number : ℕ) (runs : List Run) (r : Run) → OneMore (λ p n. ⊥) place number (λ p n. OnRun p n r)
    → OneMore (λ p n. InRuns p n runs) place number (λ p n. InRuns p n (runs ++ r ∷ []))
more_push place number [] r one = λ p n. (
  λ f. elim f as (λ w. ⊥ ⊎ ((p ≡ place) × (n ≡ number))) [ inl on ↦ (one p n).0 on | inr nil ↦ absurd nil ],
  λ f. inl ((one p n).1 f),
)
more_push place number (x ∷ runs) r one = λ p n.
    let rest = more_push place number runs r one p n in (
      λ f. elim f as (λ w. (OnRun p n x ⊎ InRuns p n runs) ⊎ ((p ≡ place) × (n ≡ number))) [
        | inl on ↦ inl (inl on)
        | inr found ↦ elim (rest.0 found) as (λ w. (OnRun p n x ⊎ InRuns p n runs) ⊎ ((p ≡ place) × (n ≡ number))) [ inl was ↦ inl (inr was) | inr it ↦ inr it ]
      ],
      λ f. elim f as (λ w. OnRun p n x ⊎ InRuns p n (runs ++ r ∷ [])) [
        | inl was ↦ elim was as (λ w. OnRun p n x ⊎ InRuns p n (runs ++ r ∷ [])) [ inl on ↦ inl on | inr found ↦ inr (rest.1 (inl found)) ]
        | inr it ↦ inr (rest.1 (inr it))
      ],
    )

-- or at the end of the last
pub numbered_set : (runs : List Run) (i : ℕ) (r : Run) → AreNumbered runs → last_number r < 2 ^ 64 → AreNumbered (set runs i r)
numbered_set [] i r a fits = tt
numbered_set (x ∷ runs) zero r a fits = (fits, a.1)
numbered_set (x ∷ runs) (suc i) r a fits = (a.0, numbered_set runs i r a.1 fits)

pub rising_set : (low : ℕ) (runs : List Run) (i : ℕ) (r d : Run) → AreRising low runs → i + 1 ≡ length runs → r.place ≡ (get_or runs i d).place → 0 < r.by_place
    → AreRising low (set runs i r)
rising_set low [] i r d a last same strides = tt
rising_set low (x ∷ []) zero r d a last same strides = (let le = a.0 in omega (arith, le, same), strides, tt)
rising_set low (x ∷ y ∷ runs) zero r d a last same strides = absurd (omega (arith, last))
rising_set low (x ∷ runs) (suc i) r d a last same strides = (a.0, a.1, rising_set (last_place x + 1) runs i r d a.2 (omega (arith, last)) same strides)

pub before_set : (p : ℕ) (runs : List Run) (i : ℕ) (r : Run) → AreBefore p runs → last_place r ≡ p → AreBefore (p + 1) (set runs i r)
before_set p [] i r b is = tt
before_set p (x ∷ runs) zero r b is = (omega (arith, is), before_more p (p + 1) runs (omega arith) b.1)
before_set p (x ∷ runs) (suc i) r b is = (let h = b.0 in omega (arith, h), before_set p runs i r b.1 is)

pub more_set : (place number : ℕ) (runs : List Run) (i : ℕ) (r d : Run) → i < length runs
    → OneMore (λ p n. OnRun p n (get_or runs i d)) place number (λ p n. OnRun p n r)
    → OneMore (λ p n. InRuns p n runs) place number (λ p n. InRuns p n (set runs i r))
more_set place number [] i r d below one = absurd (omega (arith, below))
more_set place number (x ∷ runs) zero r d below one = λ p n. (
  λ f. elim f as (λ w. (OnRun p n x ⊎ InRuns p n runs) ⊎ ((p ≡ place) × (n ≡ number))) [
    | inl on ↦ elim ((one p n).0 on) as (λ w. (OnRun p n x ⊎ InRuns p n runs) ⊎ ((p ≡ place) × (n ≡ number))) [ inl was ↦ inl (inl was) | inr it ↦ inr it ]
    | inr found ↦ inl (inr found)
  ],
  λ f. elim f as (λ w. OnRun p n r ⊎ InRuns p n runs) [
    | inl was ↦ elim was as (λ w. OnRun p n r ⊎ InRuns p n runs) [ inl on ↦ inl ((one p n).1 (inl on)) | inr found ↦ inr found ]
    | inr it ↦ inl ((one p n).1 (inr it))
  ],
)
more_set place number (x ∷ runs) (suc i) r d below one = λ p n.
    let rest = more_set place number runs i r d (omega (arith, below)) one p n in (
      λ f. elim f as (λ w. (OnRun p n x ⊎ InRuns p n runs) ⊎ ((p ≡ place) × (n ≡ number))) [
        | inl on ↦ inl (inl on)
        | inr found ↦ elim (rest.0 found) as (λ w. (OnRun p n x ⊎ InRuns p n runs) ⊎ ((p ≡ place) × (n ≡ number))) [ inl was ↦ inl (inr was) | inr it ↦ inr it ]
      ],
      λ f. elim f as (λ w. OnRun p n x ⊎ InRuns p n (set runs i r)) [
        | inl was ↦ elim was as (λ w. OnRun p n x ⊎ InRuns p n (set runs i r)) [ inl on ↦ inl on | inr found ↦ inr (rest.1 (inl found)) ]
        | inr it ↦ inr (rest.1 (inr it))
      ],
    )

-- What a search of runs gives: all before a place of the list begin at or before p, and the others behind it
pub partitioned : (p : ℕ) (runs : List Run) → AreRising 0 runs → IsPartitionedBy (λ (r : Run). nat_le r.place p) runs
partitioned p runs a = λ i j d le below yes.
    let rise = places_rise 0 runs i j d a le below in
    let h = leb-true (get_or runs j d).place p yes in
    le-leb (get_or runs i d).place p (omega (arith, rise, h))

pub in_first : (p n i : ℕ) (runs : List Run) (d : Run) → i ≡ 0
    → IsPartitionPoint (λ (r : Run). nat_le r.place p ≡ true) (λ (r : Run). nat_le r.place p ≡ false) runs i → InRuns p n runs → ⊥
in_first p n i runs d none point found =
    none_found p n runs d (λ k below. leb_above (get_or runs k d).place p (point.1 k d (omega (arith, none)) below)) found

pub in_one : (p n i : ℕ) (runs : List Run) (d : Run) → AreRising 0 runs → (i ≡ 0 → ⊥) → i ≤ length runs
    → IsPartitionPoint (λ (r : Run). nat_le r.place p ≡ true) (λ (r : Run). nat_le r.place p ≡ false) runs i
    → (OnRun p n (get_or runs (i - 1) d) → InRuns p n runs) × (InRuns p n runs → OnRun p n (get_or runs (i - 1) d))
in_one p n i runs d a some within point = (
  λ on. in_at p n runs (i - 1) d (omega (arith, some, within)) on,
  λ found.
      found_at p n 0 runs (i - 1) d a (omega (arith, some, within)) (leb-true (get_or runs (i - 1) d).place p (point.0 (i - 1) d (omega arith) (omega (arith, some))))
      (λ k later below. leb_above (get_or runs k d).place p (point.1 k d (omega (arith, later, some)) below)) found,
)

-- by what was found on the one run
pub found_in : (p i : ℕ) (runs : List Run) (d : Run) (o : Option ℕ) → AreRising 0 runs → (i ≡ 0 → ⊥) → i ≤ length runs
    → IsPartitionPoint (λ (r : Run). nat_le r.place p ≡ true) (λ (r : Run). nat_le r.place p ≡ false) runs i
    → FindsOn p (get_or runs (i - 1) d) o → FindsIn p runs o
found_in p i runs d None a some within point on = λ n found. on n ((in_one p n i runs d a some within point).1 found)
found_in p i runs d (Some n) a some within point on = (in_one p n i runs d a some within point).0 on
