-- What the receipts and notes of a ticket amount to.
use Rattle.std.proofs.Common.{◌≡◌, ℕ, ◌+◌, ◌≤◌, Bool, true, false, not, ◌&&◌, ◌||◌, cond, List, [], ◌∷◌, refl, sym, ap, subst, ◌∙◌, arith, count_by}
use Rattle.std.proofs.lemmas.List.Sums.{sum_by-cons}
use Rattle.std.specs.List.{fold, list_all}
use Rattle.ring_core.specs.declared.log.Ticket.{Ticket}
use Rattle.unit_model.specs.Tasks.{same_ticket}
use Rattle.unit_model.specs.Receipts.{Receipt}
use Rattle.phases.specs.Notes.{PlainNote}
use Rattle.phases.specs.declared.note.Cause.{Cause}
use Rattle.close_audit.specs.declared.tally.Answer.{Answer}
use Rattle.close_audit.specs.declared.tally.Answer.TheVariants as answer
use Rattle.close_audit.specs.declared.tally.Tally.{Tally}
use Rattle.close_audit.specs.Inner.Tallies.{joined, with_receipt, with_note}
use Rattle.close_audit.proofs.Bools.{and_true, and_over}

-- so many answers, of which receipts are right or not, and the notes all pass a test or not
abbrev pub Amounts : Bool → (Cause → Bool) → Answer → ℕ → Bool → Type 0
Amounts q p answer.Missing n right = (n ≡ 0) × (right ≡ true)
Amounts q p answer.Receipt n right = (n ≡ 1) × (right ≡ q)
Amounts q p (answer.Note why) n right = (n ≡ 1) × (right ≡ p why)
Amounts q p answer.Several n right = 2 ≤ n

module _ (q : Bool) (p : Cause → Bool) where
  one_receipt : (a : Answer) (n : ℕ) (right : Bool) → Amounts q p a n right → Amounts q p (joined a answer.Receipt) (n + 1) (right && q)
  one_receipt answer.Missing n right is = (omega (arith, is.0), ap (λ r. r && q) is.1)
  one_receipt answer.Receipt n right is = omega (arith, is.0)
  one_receipt (answer.Note why) n right is = omega (arith, is.0)
  one_receipt answer.Several n right is = omega (arith, is)

  one_note : (a : Answer) (c : Cause) (n : ℕ) (right : Bool) → Amounts q p a n right → Amounts q p (joined a (answer.Note c)) (n + 1) (right && p c)
  one_note answer.Missing c n right is = (omega (arith, is.0), ap (λ r. r && p c) is.1)
  one_note answer.Receipt c n right is = omega (arith, is.0)
  one_note (answer.Note why) c n right is = omega (arith, is.0)
  one_note answer.Several c n right is = omega (arith, is)

  same_amount : (a : Answer) (m n : ℕ) (b c : Bool) → m ≡ n → b ≡ c → Amounts q p a m b → Amounts q p a n c
  same_amount a m n b c e f is = subst (λ k. Amounts q p a k c) e (subst (λ x. Amounts q p a m x) f is)

-- a tally of which only the answer was read, and it amounts to that
abbrev pub Answered : Bool → (Cause → Bool) → Tally → Tally → ℕ → Bool → Type 0
Answered q p s r n right = (r ≡ record s { answer = r.answer }) × Amounts q p r.answer n right

counted_yes : (n k : ℕ) (b : Bool) → b ≡ true → (n + 1) + k ≡ n + (cond b 1 0 + k)
counted_yes n k b e = rw e (omega arith)

counted_no : (n k : ℕ) (b : Bool) → b ≡ false → n + k ≡ n + (cond b 1 0 + k)
counted_no n k b e = rw e (omega arith)

module _ (q : Bool) (p : Cause → Bool) (t : Ticket) where
  abbrev of_receipt : Receipt → Bool
  of_receipt c = same_ticket c.ticket t

  abbrev of_note : PlainNote → Bool
  of_note n = same_ticket n.ticket t

  abbrev has_run : Receipt → Bool
  has_run c = not (same_ticket c.ticket t) || q

  abbrev is_fit : PlainNote → Bool
  is_fit n = not (same_ticket n.ticket t) || p n.cause

  again : (s x r : Tally) → x ≡ record s { answer = x.answer } → r ≡ record x { answer = r.answer } → r ≡ record s { answer = r.answer }
  again s x r e f = f ∙ ap (λ (z : Tally). record z { answer = r.answer }) e

  pub receipts_read : (cs : List Receipt) (s : Tally) (n : ℕ) (right : Bool) → Amounts q p s.answer n right
      → Answered q p s (fold (with_receipt t) s cs) (n + count_by of_receipt cs) (right && list_all has_run cs)
  receipts_read [] s n right is = (refl, same_amount q p s.answer n (n + 0) right (right && true) (omega arith) (sym (and_true right)) is)
  receipts_read (c ∷ cs) s n right is =
      let e : count_by of_receipt (c ∷ cs) ≡ cond (of_receipt c) 1 0 + count_by of_receipt cs = sum_by-cons (λ x. cond (of_receipt x) 1 0) c cs in
      elim (of_receipt c) as (λ b. (of_receipt c ≡ b) → Answered q p s (fold (with_receipt t) (cond b (record s { answer = joined s.answer answer.Receipt }) s) cs) (n + count_by of_receipt (c ∷ cs)) (right && ((not b || q) && list_all has_run cs))) [
        | true ↦ λ g.
            let x : Tally = record s { answer = joined s.answer answer.Receipt } in
            let r = receipts_read cs x (n + 1) (right && q) (one_receipt q p s.answer n right is) in (
              again s x (fold (with_receipt t) x cs) refl r.0,
              same_amount q p (fold (with_receipt t) x cs).answer ((n + 1) + count_by of_receipt cs) (n + count_by of_receipt (c ∷ cs)) ((right && q) && list_all has_run cs) (right && (q && list_all has_run cs))
                  (counted_yes n (count_by of_receipt cs) (of_receipt c) g ∙ ap (λ k. n + k) (sym e)) (and_over right q (list_all has_run cs)) r.1,
            )
        | false ↦ λ g.
            let r = receipts_read cs s n right is in (
              r.0,
              same_amount q p (fold (with_receipt t) s cs).answer (n + count_by of_receipt cs) (n + count_by of_receipt (c ∷ cs)) (right && list_all has_run cs) (right && list_all has_run cs)
                  (counted_no n (count_by of_receipt cs) (of_receipt c) g ∙ ap (λ k. n + k) (sym e)) refl r.1,
            )
      ] refl

  pub notes_read : (cs : List PlainNote) (s : Tally) (n : ℕ) (right : Bool) → Amounts q p s.answer n right
      → Answered q p s (fold (with_note t) s cs) (n + count_by of_note cs) (right && list_all is_fit cs)
  notes_read [] s n right is = (refl, same_amount q p s.answer n (n + 0) right (right && true) (omega arith) (sym (and_true right)) is)
  notes_read (c ∷ cs) s n right is =
      let e : count_by of_note (c ∷ cs) ≡ cond (of_note c) 1 0 + count_by of_note cs = sum_by-cons (λ x. cond (of_note x) 1 0) c cs in
      elim (of_note c) as (λ b. (of_note c ≡ b) → Answered q p s (fold (with_note t) (cond b (record s { answer = joined s.answer (answer.Note c.cause) }) s) cs) (n + count_by of_note (c ∷ cs)) (right && ((not b || p c.cause) && list_all is_fit cs))) [
        | true ↦ λ g.
            let x : Tally = record s { answer = joined s.answer (answer.Note c.cause) } in
            let r = notes_read cs x (n + 1) (right && p c.cause) (one_note q p s.answer c.cause n right is) in (
              again s x (fold (with_note t) x cs) refl r.0,
              same_amount q p (fold (with_note t) x cs).answer ((n + 1) + count_by of_note cs) (n + count_by of_note (c ∷ cs)) ((right && p c.cause) && list_all is_fit cs) (right && (p c.cause && list_all is_fit cs))
                  (counted_yes n (count_by of_note cs) (of_note c) g ∙ ap (λ k. n + k) (sym e)) (and_over right (p c.cause) (list_all is_fit cs)) r.1,
            )
        | false ↦ λ g.
            let r = notes_read cs s n right is in (
              r.0,
              same_amount q p (fold (with_note t) s cs).answer (n + count_by of_note cs) (n + count_by of_note (c ∷ cs)) (right && list_all is_fit cs) (right && list_all is_fit cs)
                  (counted_no n (count_by of_note cs) (of_note c) g ∙ ap (λ k. n + k) (sym e)) refl r.1,
            )
      ] refl
