-- Logs that go on.
use Rattle.std.proofs.Common.{◌≡◌, ℕ, ◌≤◌, ◌==◌, true, false, cond, List, [], ◌∷◌, ◌++◌, length, refl, ap, sym, ◌∙◌, subst, arith, append_assoc, length-append}
use Rattle.std.specs.Prelude.{reverse}
use Rattle.std.proofs.lemmas.List.{reverse-append}
use mathlib.Core.List.{IsPrefix}
use Rattle.shared_trace.specs.Events.{IsLawful, events_of, count_of}
use Rattle.shared_trace.specs.Inner.Logs.{IsPast}

module _ {E : Type 0} where
  pub past_self : (xs : List E) → IsPast xs xs
  past_self xs = ([], refl)

  pub past_next : (e : E) (xs : List E) → IsPast xs (e ∷ xs)
  past_next e xs = (e ∷ [], refl)

  pub past_trans : (xs ys zs : List E) → IsPast xs ys → IsPast ys zs → IsPast xs zs
  past_trans xs ys zs p q = (q.0 ++ p.0, append_assoc q.0 p.0 xs ∙ (ap (λ w. q.0 ++ w) p.1 ∙ q.1))

  -- a book has the newest event last
  pub turned : (xs : List E) (e : E) → reverse (xs ++ e ∷ []) ≡ e ∷ reverse xs
  turned xs e = reverse-append xs (e ∷ [])

  pub prefix_past : (xs ys : List E) → IsPrefix xs ys → IsPast (reverse xs) (reverse ys)
  prefix_past xs ys p = (reverse p.0, sym (reverse-append xs p.0) ∙ ap (λ w. reverse w) p.1)

  pub past_length : (xs ys : List E) → IsPast xs ys → length xs ≤ length ys
  past_length xs ys p = omega (arith, sym (ap length p.1) ∙ length-append p.0 xs)

  -- a past as long as the whole is the whole
  pub past_whole : (xs ys : List E) → IsPast xs ys → length ys ≤ length xs → xs ≡ ys
  past_whole xs ys p le = none p.0 p.1 (omega (arith, sym (ap length p.1) ∙ length-append p.0 xs, le))
    where
      none : (more : List E) → more ++ xs ≡ ys → length more ≡ 0 → xs ≡ ys
      none [] e z = e
      none (x ∷ more) e z = absurd (omega (arith, z))

  module _ (part_of : E → ℕ) where
    pub events_append : (k : ℕ) (xs ys : List E) → events_of part_of k (xs ++ ys)
        ≡ events_of part_of k xs ++ events_of part_of k ys
    events_append k [] ys = refl
    events_append k (x ∷ xs) ys =
        let h = events_append k xs ys in
        elim (part_of x == k) as (λ b. cond b (x ∷ events_of part_of k (xs ++ ys)) (events_of part_of k (xs ++ ys))
        ≡ cond b (x ∷ events_of part_of k xs) (events_of part_of k xs) ++ events_of part_of k ys) [
          | true ↦ ap (λ w. x ∷ w) h
          | false ↦ h
        ]

    pub past_events : (k : ℕ) (xs ys : List E) → IsPast xs ys → IsPast (events_of part_of k xs) (events_of part_of k ys)
    past_events k xs ys p = (events_of part_of k p.0, sym (events_append k p.0 xs) ∙ ap (λ w. events_of part_of k w) p.1)

    pub past_count : (k : ℕ) (xs ys : List E) → IsPast xs ys → count_of part_of k xs ≤ count_of part_of k ys
    past_count k xs ys p = past_length (events_of part_of k xs) (events_of part_of k ys) (past_events k xs ys p)

    -- a past with as many events of a part has the same
    pub past_same : (k : ℕ) (xs ys : List E) → IsPast xs ys → count_of part_of k ys ≤ count_of part_of k xs
        → events_of part_of k xs ≡ events_of part_of k ys
    past_same k xs ys p le =
        past_whole (events_of part_of k xs) (events_of part_of k ys) (past_events k xs ys p) le

  pub past_lawful : (may : List E → E → Type 0) (xs ys : List E) → IsPast xs ys → IsLawful may ys → IsLawful may xs
  past_lawful may xs ys p h = behind p.0 (subst (IsLawful may) (sym p.1) h)
    where
      behind : (more : List E) → IsLawful may (more ++ xs) → IsLawful may xs
      behind [] h = h
      behind (x ∷ more) h = behind more h.0
