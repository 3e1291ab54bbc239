-- What is kept of folded steps, and one more; and what is forgotten of them.
use Rattle.std.proofs.Common.{◌≡◌, ℕ, zero, suc, ◌+◌, ◌<◌, ◌≤◌, Bool, true, false, eqb, cond, List, [], ◌∷◌, ◌++◌, length, map, drop, slice_get, Option, Some, None, is_some, inl, inr, refl, sym, ◌∙◌, ap, subst, arith, length-append}
use Rattle.std.proofs.lemmas.Bool.{eqb-true}
use Rattle.std.proofs.lemmas.Option.{slice_get_past}
use Rattle.unit_model.specs.declared.rule.Rule.{Rule}
use Rattle.unit_log.specs.declared.folding.FoldedMark.{FoldedMark}
use Rattle.unit_log.specs.declared.kind.StepKind.{StepKind}
use Rattle.unit_log.specs.Inner.Kept.{met_kind}
use Rattle.unit_log.specs.Inner.Folding.{AreFolded, mark_at, met_one, with_mark, rule_if, Forgets}
use Rattle.std.proofs.lemmas.List.{length-map, map-append}
use Rattle.unit_log.specs.declared.runs.Run.{Run}
use Rattle.unit_log.specs.Runs.{committed}
use Rattle.unit_log.specs.Inner.Runs.{AreCommits, FoldsOne}
use Rattle.unit_log.proofs.Tables.{folds_one}
use Rattle.unit_log.proofs.Places.{push_get}

abbrev or_else : Option Rule → Option Rule → Option Rule
or_else None other = other
or_else (Some r) other = Some r

-- one more step, whose kind meets these tasks
marked_more : (len p : ℕ) (o : Option Rule) (marks : List FoldedMark) (kinds : List StepKind) (k : StepKind) → len ≡ length kinds → o ≡ met_kind k
    → mark_at p marks ≡ met_one (slice_get kinds p) → mark_at p (with_mark len o marks) ≡ met_one (slice_get (kinds ++ k ∷ []) p)
marked_more len p (Some r) marks kinds k same is was =
    ap (λ n. cond (eqb n p) (Some r) (mark_at p marks)) same
    ∙ (elim (eqb (length kinds) p) as (λ b. cond b (Some r) (mark_at p marks) ≡ met_one (cond b (Some k) (slice_get kinds p))) [
      | true ↦ is
      | false ↦ was
    ])
    ∙ sym (ap met_one (push_get kinds k p))
marked_more len p None marks kinds k same is was =
    (elim (eqb (length kinds) p) as (λ b. eqb (length kinds) p ≡ b → mark_at p marks ≡ met_one (cond b (Some k) (slice_get kinds p))) [
      | true ↦ λ e. was ∙ ap met_one (slice_get_past kinds p (let h = eqb-true (length kinds) p e in omega (arith, h))) ∙ is
      | false ↦ λ e. was
    ]) refl
    ∙ sym (ap met_one (push_get kinds k p))

pub folded_more : (keeps : Bool) (len len' f : ℕ) (o : Option Rule) (marks marks' : List FoldedMark) (tables tables' : List (List Run)) (kinds kinds' : List StepKind) (k : StepKind)
    → AreFolded keeps len f marks tables kinds → o ≡ met_kind k → len' ≡ len + 1 → marks' ≡ with_mark len o marks → FoldsOne keeps len (committed k) tables tables'
    → kinds' ≡ kinds ++ k ∷ [] → AreFolded keeps len' f marks' tables' kinds'
folded_more keeps len len' f o marks marks' tables tables' kinds kinds' k a is is_len is_marks folds is_kinds =
    subst (λ w. AreFolded keeps len' f w tables' kinds') (sym is_marks) (subst (λ w. AreFolded keeps len' f (with_mark len o marks) tables' w) (sym is_kinds) (record {
      counted = let n = length-append kinds (k ∷ []) in let c = a.counted in omega (arith, n, c, is_len);
      marked = λ p le. marked_more len p o marks kinds k a.counted is (a.marked p le);
      stand = λ on.
          subst (λ w. AreCommits w tables') (sym (map-append committed kinds (k ∷ [])))
          (folds_one keeps len (committed k) (map committed kinds) tables tables' (a.counted ∙ sym (length-map kinds committed)) a.stand folds on);
    }))

other_place : (m p : ℕ) → m < p → eqb m p ≡ false
other_place m p below =
    (elim (eqb m p) as (λ b. eqb m p ≡ b → b ≡ false) [
      | true ↦ λ e. absurd (let h = eqb-true m p e in omega (arith, h, below))
      | false ↦ λ e. refl
    ]) refl

-- the oldest tells nothing of later places
mark_before : (p : ℕ) (m : FoldedMark) (marks : List FoldedMark) → m.place < p → mark_at p (marks ++ m ∷ []) ≡ mark_at p marks
mark_before p m [] below = ap (λ b. cond b (Some m.rule) None) (other_place m.place p below)
mark_before p m (x ∷ marks) below = ap (λ w. cond (eqb x.place p) (Some x.rule) w) (mark_before p m marks below)

pub forgets : (keeps : Bool) (len f f' : ℕ) (marks marks' : List FoldedMark) (tables : List (List Run)) (kinds : List StepKind) → AreFolded keeps len f marks tables kinds
    → f ≤ f' → Forgets f' marks marks' → AreFolded keeps len f' marks' tables kinds
forgets keeps len f f' marks marks' tables kinds a le (inl same) =
    record { counted = a.counted; marked = λ p from. ap (mark_at p) same ∙ a.marked p (omega (arith, le, from)); stand = a.stand }
forgets keeps len f f' marks marks' tables kinds a le (inr gone) =
    record {
      counted = a.counted;
      marked = λ p from.
          sym (mark_before p gone.0 marks' (let h = gone.1 in omega (arith, h, from)))
          ∙ ap (mark_at p) (sym gone.2)
          ∙ a.marked p (omega (arith, le, from));
      stand = a.stand;
    }

-- The marks from an index on:
mark_here : (p i : ℕ) (o : Option FoldedMark) (marks : List FoldedMark) → o ≡ slice_get marks i
    → mark_at p (drop i marks) ≡ or_else (rule_if p o) (mark_at p (drop (suc i) marks))
mark_here p zero o [] is = ap (λ w. or_else (rule_if p w) None) (sym is)
mark_here p zero o (m ∷ marks) is =
    (elim (eqb m.place p) as (λ b. cond b (Some m.rule) (mark_at p marks) ≡ or_else (cond b (Some m.rule) None) (mark_at p marks)) [ true ↦ refl | false ↦ refl ])
    ∙ ap (λ w. or_else (rule_if p w) (mark_at p marks)) (sym is)
mark_here p (suc i) o [] is = ap (λ w. or_else (rule_if p w) None) (sym is)
mark_here p (suc i) o (m ∷ marks) is = mark_here p i o marks is

unlike : false ≡ true → ⊥
unlike e = cc

pub no_rule : (r : Option Rule) → is_some r ≡ false → r ≡ None
no_rule None e = refl
no_rule (Some r) e = absurd (unlike (sym e))

some_first : (r other : Option Rule) → is_some r ≡ true → r ≡ or_else r other
some_first None other e = absurd (unlike e)
some_first (Some r) other e = refl

pub mark_next : (p i j : ℕ) (o : Option FoldedMark) (r : Option Rule) (marks : List FoldedMark) → o ≡ slice_get marks i → r ≡ rule_if p o → is_some r ≡ false → j ≡ i + 1
    → mark_at p (drop i marks) ≡ mark_at p marks → mark_at p (drop j marks) ≡ mark_at p marks
mark_next p i j o r marks is as_rule none next so_far =
    ap (λ n. mark_at p (drop n marks)) (let e : j ≡ suc i = omega (arith, next) in e)
    ∙ ap (λ w. or_else w (mark_at p (drop (suc i) marks))) (sym (no_rule r none) ∙ as_rule)
    ∙ sym (mark_here p i o marks is)
    ∙ so_far

pub mark_found : (p i : ℕ) (o : Option FoldedMark) (r : Option Rule) (marks : List FoldedMark) → o ≡ slice_get marks i → r ≡ rule_if p o → is_some r ≡ true
    → mark_at p (drop i marks) ≡ mark_at p marks → r ≡ mark_at p marks
mark_found p i o r marks is as_rule some so_far =
    some_first r (mark_at p (drop (suc i) marks)) some
    ∙ ap (λ w. or_else w (mark_at p (drop (suc i) marks))) as_rule
    ∙ sym (mark_here p i o marks is)
    ∙ so_far
