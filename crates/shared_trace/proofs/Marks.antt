-- A mark that steps, and what two looks at all words show.
use Rattle.std.proofs.lemmas.Bool.Decides.{nat_tests}
use Rattle.std.proofs.lemmas.List.{get_or_default}
use Rattle.std.proofs.Common.{◌≡◌, ℕ, ◌+◌, ◌<◌, ◌==◌, nat_lt, true, false, List, [], ◌∷◌, length, slice_index_or, refl, ap, sym, ◌∙◌, subst, arith}
use Rattle.shared_trace.specs.Events.{IsLawful, PlainMark, Each, events_of, count_of}
use Rattle.shared_trace.specs.Inner.Logs.{IsPast, AreBelow, Steps, IsCounted, Closes}
use Rattle.shared_trace.proofs.Events.{past_trans, past_same, past_count}

module _ {E : Type 0} (parts : ℕ) (part_of : E → ℕ) (may : List E → E → Type 0) where
  -- a log with as many events of the part as the mark has the same events of it
  pub same_events : (k n : ℕ) (own known past : List E) → n ≡ count_of part_of k own → IsPast own known → IsPast known past
      → count_of part_of k past ≡ n → events_of part_of k past ≡ events_of part_of k own
  same_events k n own known past is p q m =
      sym (past_same part_of k own past (past_trans own known past p q) (omega (arith, is, m)))

  -- what the step of a mark asks is what is asked of a log with that many events
  pub step_may : (m : PlainMark E) (k n : ℕ) (own known : List E) (e : E) → record { number = k; own = own; known = known } ≡ m
      → n ≡ count_of part_of k own → IsPast own known
      → ((past : List E) → IsPast m.known past → IsLawful may past → AreBelow part_of parts past
      → events_of part_of m.number past ≡ events_of part_of m.number m.own → may past e)
      → (past : List E) → IsPast known past → IsLawful may past → AreBelow part_of parts past → count_of part_of k past ≡ n
      → may past e
  step_may m k n own known e is c p asked past pre lawful below many =
      let P : PlainMark E → Type 0 =
      λ x. (past : List E) → IsPast x.known past → IsLawful may past → AreBelow part_of parts past
      → events_of part_of x.number past ≡ events_of part_of x.number x.own → may past e in
      (subst P (sym is) asked) past pre lawful below (same_events k n own known past c p pre many)

  pub step_then : (m : PlainMark E) (k n : ℕ) (own known own' known' : List E) (e : E)
      → record { number = k; own = own; known = known } ≡ m
      → n ≡ count_of part_of k own → IsPast own known → own' ≡ known'
      → ((past : List E) × IsPast known past × (count_of part_of k past ≡ n) × (known' ≡ e ∷ past) × IsLawful may known'
      × AreBelow part_of parts known')
      → Steps part_of may m e (record { number = k; own = own'; known = known' })
  step_then m k n own known own' known' e is c p two told =
      let (past, pre, many, more, lawful, below) = told in
      let P : PlainMark E → Type 0 = λ x. Steps part_of may x e (record { number = k; own = own'; known = known' }) in
      let new : PlainMark E = record { number = k; own = own'; known = known' } in
      let a : new ≡ record { number = k; own = known'; known = known' } =
      ap (λ (l : List E). let r : PlainMark E = record { number = k; own = l; known = known' } in r) two in
      let b : new ≡ record { number = k; own = e ∷ past; known = e ∷ past } =
      a ∙ ap (λ (l : List E). let r : PlainMark E = record { number = k; own = l; known = l } in r) more in
      subst P is (past, pre, same_events k n own known past c p pre many, b, subst (IsLawful may) more lawful)

  pub step_counts : (k n : ℕ) (own known own' known' : List E) (e : E) → n ≡ count_of part_of k own → part_of e ≡ k
      → IsPast own known → own' ≡ known'
      → ((past : List E) × IsPast known past × (count_of part_of k past ≡ n) × (known' ≡ e ∷ past) × IsLawful may known'
      × AreBelow part_of parts known')
      → n + 1 ≡ count_of part_of k own'
  step_counts k n own known own' known' e c of p two told =
      let (past, pre, many, more, lawful, below) = told in
      omega (arith, many, ap (λ l. count_of part_of k l) (two ∙ more), here k e past of)
    where
      here : (k : ℕ) (e : E) (past : List E) → part_of e ≡ k → count_of part_of k (e ∷ past) ≡ count_of part_of k past + 1
      here k e past of = let t : (part_of e == k) ≡ true = grind (arith, nat_tests) in rw t (omega arith)

  -- two looks: between them stands a log that has as many events of each part as the part's mark
  pub closes : (marks : List (PlainMark E)) (first log last : List E) → IsLawful may log → AreBelow part_of parts log
      → length marks ≡ parts → Each (λ k m. IsPast m.known first) marks
      → IsPast first log → Each (IsCounted part_of first log) marks → Each (IsCounted part_of log last) marks
      → Closes parts part_of may marks log
  closes marks first log last lawful below row joined on one two =
      record {
        lawful = lawful;
        below = below;
        row = row;
        numbers = λ k o lt. (one k o lt).0;
        known = λ k o lt. past_trans (slice_index_or marks k o).known first log (joined k o lt) on;
        events = λ k o lt.
            let m = slice_index_or marks k o in
            let a = one k o lt in
            let b = two k o lt in
            let low = past_count part_of k a.2.0 log a.2.2 in
            let high = past_count part_of k log b.2.0 b.2.1 in
            sym (past_same part_of k m.own log (past_trans m.own first log (past_trans m.own m.known first a.1
            (joined k o lt)) on)
            (omega (arith, low, high, a.2.3, b.2.3)));
      }

  -- one mark more was counted
  pub counted_more : (marks : List (PlainMark E)) (k n m : ℕ) (old front new : List E) (mark : PlainMark E)
      → IsPast old front
      → ((j : ℕ) (o : PlainMark E) → j < k → j < length marks → IsCounted part_of old front j (slice_index_or marks j o))
      → mark ≡ slice_index_or marks k mark → mark.number ≡ k → IsPast mark.own mark.known → IsPast front new
      → count_of part_of k new ≡ n → m ≡ count_of part_of mark.number mark.own → n ≡ m
      → (j : ℕ) (o : PlainMark E) → j < k + 1 → j < length marks → IsCounted part_of old new j (slice_index_or marks j o)
  counted_more marks k n m old front new mark on before at number later next found own same j o lt in_row =
      elim (nat_lt j k) as (λ b. nat_lt j k ≡ b → IsCounted part_of old new j (slice_index_or marks j o)) [
        | true ↦ λ t.
            let h = before j o (grind (arith, nat_tests)) in_row in
            (h.0, h.1, (h.2.0, h.2.1, past_trans h.2.0 front new h.2.2 next, h.2.3))
        | false ↦ λ t.
            let here : j ≡ k = grind (arith, nat_tests) in
            let is : slice_index_or marks j o ≡ mark =
            get_or_default marks j o mark in_row ∙ ap (λ i. slice_index_or marks i mark) here ∙ sym at in
            let done : IsCounted part_of old new k mark = (
              number,
              later,
              (
                new,
                past_trans old front new on next,
                ([], refl),
                found ∙ same ∙ own
                    ∙ ap (λ i. count_of part_of i mark.own) number,
              ),
            ) in
            let P : ℕ → PlainMark E → Type 0 = λ i x. IsCounted part_of old new i x in
            subst (λ x. P j x) (sym is) (subst (λ i. P i mark) (sym here) done)
      ] refl

  pub joined_more : (marks : List (PlainMark E)) (k : ℕ) (front new : List E) (mark : PlainMark E)
      → ((j : ℕ) (o : PlainMark E) → j < k → j < length marks → IsPast (slice_index_or marks j o).known front)
      → mark ≡ slice_index_or marks k mark → IsPast mark.known new → IsPast front new
      → (j : ℕ) (o : PlainMark E) → j < k + 1 → j < length marks → IsPast (slice_index_or marks j o).known new
  joined_more marks k front new mark before at learnt next j o lt in_row =
      elim (nat_lt j k) as (λ b. nat_lt j k ≡ b → IsPast (slice_index_or marks j o).known new) [
        | true ↦ λ t. past_trans (slice_index_or marks j o).known front new (before j o (grind (arith, nat_tests)) in_row) next
        | false ↦ λ t.
            let here : j ≡ k = grind (arith, nat_tests) in
            let is : slice_index_or marks j o ≡ mark =
            get_or_default marks j o mark in_row ∙ ap (λ i. slice_index_or marks i mark) here ∙ sym at in
            subst (λ (x : PlainMark E). IsPast x.known new) (sym is) learnt
      ] refl
