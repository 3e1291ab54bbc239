-- The exchange that adds an event keeps the rule.
use Rattle.std.proofs.Common.{◌≡◌, ℕ, ◌+◌, ◌<◌, ◌==◌, Bool, true, false, List, [], ◌∷◌, ◌++◌, length, replicate, refl, ap, sym, ◌∙◌, subst, arith, inl, None}
use Rattle.std.specs.Prelude.{reverse, slice_set, MatchBool}
use Rattle.std.proofs.lemmas.List.{append-nil, get_or-set_same, get_or-set_other, get_or-replicate, length-replicate, length-set, set-get_or}
use Rattle.std.proofs.lemmas.Bool.Decides.{nat_tests}
use mathlib.Core.List.{IsPrefix}
use prog.Atomic.{either}
use Rattle.logbook.specs.Pages.{Cell, cell, keeps, no_nib, step, Moves, Goes}
use Rattle.shared_trace.specs.Events.{IsLawful, count_of}
use Rattle.shared_trace.specs.Inner.Logs.{IsPast, AreBelow}
use Rattle.shared_trace.specs.Inner.Rules.{IsKept, Adds, Looks}
use Rattle.shared_trace.proofs.Events.{turned, prefix_past}

module _ {E : Type 0} (parts : ℕ) (part_of : E → ℕ) (may : List E → E → Type 0) where
  abbrev pub shown : List E → List E
  shown log = []

  abbrev pub moved : E → List E → List E → ℕ → Type 0
  moved e xs ys n = Unit {0}

  pub opens : IsKept parts part_of may (replicate parts (0, true)) []
  opens =
      record {
        row = length-replicate parts (0, true);
        words = λ k lt. get_or-replicate parts k (0, true) (0, false) lt;
        lawful = tt;
        below = tt;
      }

  -- the words of other parts count what they did
  row_same : (cells : List Cell) (k n : ℕ) → length (slice_set cells k (n, true)) ≡ length cells
  row_same cells k n = length-set cells k (n, true)

  -- an event more of one part
  count_next : (k : ℕ) (e : E) (past : List E) → (part_of e == k) ≡ true → count_of part_of k (e ∷ past)
      ≡ count_of part_of k past + 1
  count_next k e past is = rw is (omega arith)

  count_other : (k : ℕ) (e : E) (past : List E) → (part_of e == k) ≡ false → count_of part_of k (e ∷ past)
      ≡ count_of part_of k past
  count_other k e past is = rw is refl

  kept_more : (cells : List Cell) (log : List E) (k : ℕ) (e : E) → IsKept parts part_of may cells log → k < parts
      → part_of e ≡ k → may (reverse log) e
      → IsKept parts part_of may (slice_set cells k (count_of part_of k (reverse log) + 1, true)) (log ++ e ∷ [])
  kept_more cells log k e kept in_row of may_come =
      let past = reverse log in
      let now = turned log e in
      let n = count_of part_of k past + 1 in
      let lt : k < length cells = omega (arith, kept.row, in_row) in
      let words : (j : ℕ) → j < parts → cell (slice_set cells k (n, true)) j ≡ (count_of part_of j (e ∷ past), true) = λ j j_in.
      (elim (part_of e == j) as (λ b. (part_of e == j) ≡ b → cell (slice_set cells k (n, true)) j
      ≡ (count_of part_of j (e ∷ past), true)) [
        | true ↦ λ is.
            let here : j ≡ k = grind (arith, nat_tests) in
            let c : count_of part_of j (e ∷ past) ≡ n = count_next j e past is ∙ ap (λ i. count_of part_of i past + 1) here in
            ap (λ i. cell (slice_set cells k (n, true)) i) here ∙ get_or-set_same cells k (n, true) (0, false) lt
            ∙ ap (λ (m : ℕ). (m, true)) (sym c)
        | false ↦ λ is.
            let apart : j ≡ k → ⊥ = λ same. absurd (grind (arith, nat_tests, is, of, same)) in
            get_or-set_other cells k j (n, true) (0, false) apart ∙ kept.words j j_in
            ∙ ap (λ (m : ℕ). (m, true)) (sym (count_other j e past is))
      ]) refl in
      let P : List E → Type 0 =
      λ l. (j : ℕ) → j < parts → cell (slice_set cells k (n, true)) j ≡ (count_of part_of j l, true) in
      let below : part_of e < parts = omega (arith, of, in_row) in
      record {
        row = row_same cells k n ∙ kept.row;
        words = subst P (sym now) words;
        lawful = subst (IsLawful may) (sym now) (kept.lawful, may_come);
        below = subst (AreBelow part_of parts) (sym now) (kept.below, below);
      }

  -- the event may come next wherever the log has so many of the part
  abbrev pub Comes : List E → ℕ → ℕ → E → Type 0
  Comes v k old e =
      (past : List E) → IsPast (reverse v) past → IsLawful may past → AreBelow part_of parts past
      → count_of part_of k past ≡ old → may past e

  adds_goes : (k old : ℕ) (e : E) (v : List E) → k < parts → part_of e ≡ k → Comes v k old e
      → (cs : List Cell) (log : List E) → IsKept parts part_of may cs log → IsPrefix v log
      → (b : Bool) → ((cell cs k).0 == old) ≡ b
      → Goes (IsKept parts part_of may) shown (moved e) k (v, (no_nib, None)) (λ n. either (n == old) (old + 1) n)
      (Adds parts part_of may (step k old (old + 1) e) (v, (no_nib, None))) cs log
  adds_goes k old e v in_row of comes cs log kept pre true is =
      let past = reverse log in
      let word = kept.words k in_row in
      let at : (cell cs k).0 ≡ old = grind (arith, nat_tests) in
      let n : count_of part_of k past ≡ old = ap (λ (c : Cell). c.0) (sym word) ∙ at in
      let may_come = comes past (prefix_past v log pre) kept.lawful kept.below n in
      let kept' : IsKept parts part_of may (slice_set cs k (old + 1, true)) (log ++ e ∷ []) =
      subst (λ (m : ℕ). IsKept parts part_of may (slice_set cs k (m + 1, true)) (log ++ e ∷ [])) n
      (kept_more cs log k e kept in_row of may_come) in
      let keeps' : IsKept parts part_of may (slice_set cs k (either ((cell cs k).0 == old) (old + 1) (cell cs k).0, true))
      (log ++ e ∷ []) =
      rw is kept' in (
        keeps,
        e ∷ [],
        None,
        tt,
        keeps',
        inl (refl, refl),
        rw is (log, pre, refl, n, kept'.lawful, kept'.below),
      )
  adds_goes k old e v in_row of comes cs log kept pre false is =
      let word = kept.words k in_row in
      let all : log ++ [] ≡ log = append-nil log in
      let itself : (cell cs k) ≡ ((cell cs k).0, true) = word ∙ ap (λ (c : Cell). let r : Cell = (c.0, true) in r) (sym word) in
      let stays : slice_set cs k ((cell cs k).0, true) ≡ cs =
      ap (λ (c : Cell). slice_set cs k c) (sym itself) ∙ set-get_or cs k (0, false) in
      let kept' : IsKept parts part_of may (slice_set cs k ((cell cs k).0, true)) (log ++ []) =
      subst (λ (c : List Cell). IsKept parts part_of may c (log ++ [])) (sym stays)
      (subst (λ (l : List E). IsKept parts part_of may cs l) (sym all) kept) in
      let keeps' : IsKept parts part_of may (slice_set cs k (either ((cell cs k).0 == old) (old + 1) (cell cs k).0, true))
      (log ++ []) =
      rw is kept' in (
        keeps,
        [],
        None,
        tt,
        keeps',
        inl (refl, refl),
        rw is (kept'.lawful, kept'.below),
      )

  pub adds_moves : (k old : ℕ) (e : E) (v : List E) → k < parts → part_of e ≡ k → Comes v k old e
      → Moves (IsKept parts part_of may) shown (moved e) k (v, (no_nib, None)) (λ n. either (n == old) (old + 1) n)
      (Adds parts part_of may (step k old (old + 1) e) (v, (no_nib, None)))
  adds_moves k old e v in_row of comes cs log kept pre away = (
    omega (arith, kept.row, in_row),
    ap (λ (c : Cell). c.1) (kept.words k in_row),
    adds_goes k old e v in_row of comes cs log kept pre ((cell cs k).0 == old) refl,
  )

  pub looks_moves : (k : ℕ) (e : E) (v : List E) → k < parts
      → Moves (IsKept parts part_of may) shown (moved e) k (v, (no_nib, None)) (λ n. n)
      (Looks parts part_of may (step k 0 0 e) (v, (no_nib, None)))
  looks_moves k e v in_row cs log kept pre away =
      let word = kept.words k in_row in
      let all : log ++ [] ≡ log = append-nil log in
      let itself : (cell cs k) ≡ ((cell cs k).0, true) = word ∙ ap (λ (c : Cell). let r : Cell = (c.0, true) in r) (sym word) in
      let stays : slice_set cs k ((cell cs k).0, true) ≡ cs =
      ap (λ (c : Cell). slice_set cs k c) (sym itself) ∙ set-get_or cs k (0, false) in
      let kept' : IsKept parts part_of may (slice_set cs k ((cell cs k).0, true)) (log ++ []) =
      subst (λ (c : List Cell). IsKept parts part_of may c (log ++ [])) (sym stays)
      (subst (λ (l : List E). IsKept parts part_of may cs l) (sym all) kept) in
      let n : count_of part_of k (reverse (log ++ [])) ≡ (cell cs k).0 =
      ap (λ (l : List E). count_of part_of k (reverse l)) all ∙ ap (λ (c : Cell). c.0) (sym word) in (
        omega (arith, kept.row, in_row),
        ap (λ (c : Cell). c.1) word,
        (
          keeps,
          [],
          None,
          tt,
          kept',
          inl (refl, refl),
          (n, kept'.lawful, kept'.below),
        ),
      )

  -- what a step told, where it found what was expected
  pub adds_then : (v w : List E) (key k found old : ℕ) (ask e : E) (seen : List E) → key ≡ k → ask ≡ e → reverse v ≡ seen
      → MatchBool (found == old)
      ((xs : List E) × IsPrefix v xs × (w ≡ xs ++ ask ∷ []) × (count_of part_of key (reverse xs) ≡ old)
      × IsLawful may (reverse w) × AreBelow part_of parts (reverse w))
      (IsLawful may (reverse w) × AreBelow part_of parts (reverse w))
      → found ≡ old
      → (past : List E) × IsPast seen past × (count_of part_of k past ≡ old) × (reverse w ≡ e ∷ past)
      × IsLawful may (reverse w) × AreBelow part_of parts (reverse w)
  adds_then v w key k found old ask e seen at asked shown_as told is =
      let t : (found == old) ≡ true = grind (arith, nat_tests) in
      let P : Bool → Type 0 = λ b. MatchBool b
      ((xs : List E) × IsPrefix v xs × (w ≡ xs ++ ask ∷ []) × (count_of part_of key (reverse xs) ≡ old)
      × IsLawful may (reverse w) × AreBelow part_of parts (reverse w))
      (IsLawful may (reverse w) × AreBelow part_of parts (reverse w)) in
      let (xs, pre, more, many, lawful, below) = subst P t told in
      let so : reverse w ≡ e ∷ reverse xs =
      ap (λ (l : List E). reverse l) more ∙ turned xs ask ∙ ap (λ (x : E). x ∷ reverse xs) asked in (
        reverse xs,
        subst (λ (l : List E). IsPast l (reverse xs)) shown_as (prefix_past v xs pre),
        ap (λ (j : ℕ). count_of part_of j (reverse xs)) (sym at) ∙ many,
        so,
        lawful,
        below,
      )
