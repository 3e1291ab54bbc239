-- Reading one more item; reading one more step.
use Rattle.std.proofs.Common.{◌≡◌, ℕ, zero, suc, ◌+◌, ◌-◌, ◌<◌, ◌≤◌, true, false, ◌||◌, cond, ltb, eqb, List, [], ◌∷◌, length, take, drop, get_or, Option, Some, None, is_some, refl, sym, ap, ◌∙◌, arith, ◌⊎◌, inl, inr, add-zero, zero-add}
use Rattle.std.proofs.lemmas.List.Sums.{fold_more}
use Rattle.std.proofs.lemmas.Bool.Decides.{nat_tests}
use Rattle.std.specs.Prelude.{slice_get}
use Rattle.std.specs.List.{fold, list_any}
use Rattle.std.specs.Option.{option_map}
use Rattle.ring_core.specs.declared.log.Ticket.{Ticket}
use Rattle.unit_model.specs.Tasks.{Entry, same_ticket}
use Rattle.unit_model.specs.Steps.{Step, alive}
use Rattle.unit_model.specs.Base.{base_of, kept_steps, kept_at}
use Rattle.unit_log.specs.Runs.{committed_one}
use Rattle.unit_model.specs.Receipts.{step_at}
use Rattle.unit_model.specs.Unit.{PlainUnit}
use Rattle.unit_log.specs.Kept.{kind_of}
use Rattle.close_audit.specs.declared.tally.Tally.{Tally}
use Rattle.close_audit.specs.Inner.Tallies.{fact_of_one, fact_of_commit, fact_of_alive, tells, read, read_commits, read_folded, read_alive, with_unit, with_units}

pub fold_step : {A : Type 0} (f : Tally → A → Tally) (xs : List A) (i : ℕ) (d : A) → i < length xs → (o p q : Option Tally)
    → p ≡ option_map (λ s. fold f s (take i xs)) o → q ≡ option_map (λ s. f s (get_or xs i d)) p → q ≡ option_map (λ s. fold f s (take (i + 1) xs)) o
fold_step f xs i d lt None p q e g = g ∙ ap (option_map (λ s. f s (get_or xs i d))) e
fold_step f xs i d lt (Some s) p q e g = g ∙ ap (option_map (λ s. f s (get_or xs i d))) e ∙ ap (λ z. Some z) (sym (fold_more f s xs i d lt))

pub known_kept : (f : Tally → Tally) (o p : Option Tally) → p ≡ option_map f o → is_some p ≡ is_some o
known_kept f None p e = ap is_some e
known_kept f (Some s) p e = ap is_some e

below_test : (a b : ℕ) → a < b → ltb a b ≡ true
below_test a b lt = grind (arith, nat_tests)

not_below : (a b : ℕ) → b ≤ a → ltb a b ≡ false
not_below a b le = grind (arith, nat_tests)

same_test : (a b : ℕ) → a ≡ b → eqb a b ≡ true
same_test a b e = grind (arith, nat_tests)

other_test : (a b : ℕ) → b < a → eqb a b ≡ false
other_test a b lt = grind (arith, nat_tests)

last_or_before : (p n : ℕ) → p < suc n → (p < n) ⊎ (n ≡ p)
last_or_before p n lt = grind arith

-- the steps of a history at the places from one up to another
abbrev pub between : ℕ → ℕ → List Step → List Step
between low n [] = []
between low n (step ∷ past) = cond (ltb (length past) low) [] (cond (ltb (length past) n) (step ∷ between low n past) (between low n past))

pub none_between : (low : ℕ) (h : List Step) → between low low h ≡ []
none_between low [] = refl
none_between low (step ∷ past) =
    elim (ltb (length past) low) as (λ b. cond b [] (cond b (step ∷ between low low past) (between low low past)) ≡ []) [
      | true ↦ refl
      | false ↦ none_between low past
    ]

below_or_from : (a b : ℕ) → (a < b) ⊎ (b ≤ a)
below_or_from a b = grind arith

nothing_taken : (k : ℕ) (step : Step) (past : List Step) → k ≡ 0 → take k (step ∷ past) ≡ []
nothing_taken k step past e = ap (λ (n : ℕ). take n (step ∷ past)) e

one_taken : (k n : ℕ) (step : Step) (past : List Step) → k ≡ suc n → take k (step ∷ past) ≡ step ∷ take n past
one_taken k n step past e = ap (λ (m : ℕ). take m (step ∷ past)) e

left_none : (p low : ℕ) → p < low → suc p - low ≡ 0
left_none p low lt = omega (arith, lt)

left_one : (p low : ℕ) → low ≤ p → suc p - low ≡ suc (p - low)
left_one p low le = omega (arith, le)

take_none : (k : ℕ) (h : List Step) → h ≡ [] → take k h ≡ []
take_none zero h e = refl
take_none (suc k) h e = ap (λ (p : List Step). take (suc k) p) e

pub all_between : (low n : ℕ) (h : List Step) → length h ≤ n → between low n h ≡ take (length h - low) h
all_between low n [] le = sym (take_none (0 - low) [] refl)
all_between low n (step ∷ past) le =
    elim (below_or_from (length past) low) [
      | inl less ↦
          ap (λ b. cond b [] (cond (ltb (length past) n) (step ∷ between low n past) (between low n past))) (below_test (length past) low less)
          ∙ sym (nothing_taken (length (step ∷ past) - low) step past (left_none (length past) low less))
      | inr from ↦
          ap (λ b. cond b [] (cond (ltb (length past) n) (step ∷ between low n past) (between low n past))) (not_below (length past) low from)
          ∙ ap (λ b. cond b (step ∷ between low n past) (between low n past)) (below_test (length past) n (omega arith))
          ∙ ap (λ (p : List Step). step ∷ p) (all_between low n past (omega arith))
          ∙ sym (one_taken (length (step ∷ past) - low) (length past - low) step past (left_one (length past) low from))
    ]

-- none at the next place
same_between : (low n : ℕ) (h : List Step) → length h ≤ n → between low (n + 1) h ≡ between low n h
same_between low n h le = all_between low (n + 1) h (omega arith) ∙ sym (all_between low n h le)

pub next_between : (t : Ticket) (k low : ℕ) (s : Tally) (h : List Step) (p : ℕ) → low ≤ p → p < length h
    → tells (fact_of_one k (option_map kind_of (step_at p h))) t (read t k (between low p h) s) ≡ read t k (between low (p + 1) h) s
next_between t k low s [] p le lt = absurd (omega arith)
next_between t k low s (step ∷ past) p le lt =
    elim (last_or_before p (length past) (omega arith)) [
      | inl before ↦
          let at = other_test (length past) p before in
          let from = not_below (length past) low (omega arith) in
          let now = not_below (length past) p (omega arith) in
          let next = not_below (length past) (p + 1) (omega arith) in
          rw (at, from, now, next) (next_between t k low s past p le before)
      | inr last ↦
          let at = same_test (length past) p last in
          let from = not_below (length past) low (omega arith) in
          let now = not_below (length past) p (omega arith) in
          let next = below_test (length past) (p + 1) (omega arith) in
          rw (at, from, now, next, same_between low p past (omega arith)) refl
    ]

-- a step that is kept
kept_there : (h : List Step) (p : ℕ) → base_of h ≤ p → kept_at p h ≡ step_at p h
kept_there h p le = ap (λ b. cond b None (step_at p h)) (not_below p (base_of h) le)

pub unit_step : (t : Ticket) (k : ℕ) (h : List Step) (i : ℕ) → base_of h ≤ i → i < length h → (o p q : Option Tally)
    → p ≡ option_map (read t k (between (base_of h) i h)) o
    → q ≡ option_map (tells (fact_of_one k (option_map kind_of (kept_at i h))) t) p → q ≡ option_map (read t k (between (base_of h) (i + 1) h)) o
unit_step t k h i le lt None p q e g = g ∙ ap (option_map (tells (fact_of_one k (option_map kind_of (kept_at i h))) t)) e
unit_step t k h i le lt (Some s) p q e g =
    g ∙ ap (option_map (tells (fact_of_one k (option_map kind_of (kept_at i h))) t)) e
    ∙ ap (λ (x : Option Step). Some (tells (fact_of_one k (option_map kind_of x)) t (read t k (between (base_of h) i h) s))) (kept_there h i le)
    ∙ ap (λ (z : Tally). Some z) (next_between t k (base_of h) s h i le lt)

next_taken : {X : Type 0} (x : X) (xs : List X) (i : ℕ) → take (suc i + 1) (x ∷ xs) ≡ x ∷ take (i + 1) xs
next_taken x xs i = ap (λ (n : ℕ). take n (x ∷ xs)) (next i)
  where
    next : (i : ℕ) → suc i + 1 ≡ suc (i + 1)
    next i = omega arith

-- one unit more
pub units_step : (t : Ticket) (k : ℕ) (us : List PlainUnit) (i : ℕ) (d : PlainUnit) (s : Tally) → i < length us
    → with_units t k (take (i + 1) us) s ≡ with_unit t (k + i) (get_or us i d) (with_units t k (take i us) s)
units_step t k [] i d s lt = absurd (omega arith)
units_step t k (u ∷ us) zero d s lt = ap (λ (n : ℕ). with_unit t n u s) (sym (add-zero k))
units_step t k (u ∷ us) (suc i) d s lt =
    ap (λ (l : List PlainUnit). with_units t k l s) (next_taken u us i)
    ∙ units_step t (k + 1) us i d (with_unit t k u s) (omega arith)
    ∙ ap (λ (n : ℕ). with_unit t n (get_or us i d) (with_units t (k + 1) (take i us) (with_unit t k u s))) (shift k i)
  where
    shift : (k i : ℕ) → (k + 1) + i ≡ k + suc i
    shift k i = omega arith

pub unit_more : (t : Ticket) (us : List PlainUnit) (i : ℕ) (d : PlainUnit) → i < length us → (o p w q r : Option Tally)
    → p ≡ option_map (with_units t 0 (take i us)) o
    → w ≡ option_map (read_folded t i (get_or us i d)) p
    → q ≡ option_map (read t i (kept_steps (get_or us i d).steps)) w
    → r ≡ option_map (read_alive t (alive (get_or us i d).steps)) q
    → r ≡ option_map (with_units t 0 (take (i + 1) us)) o
unit_more t us i d lt None p w q r e h f g =
    g
    ∙ ap (option_map (read_alive t (alive (get_or us i d).steps)))
    (f ∙ ap (option_map (read t i (kept_steps (get_or us i d).steps))) (h ∙ ap (option_map (read_folded t i (get_or us i d))) e))
unit_more t us i d lt (Some s) p w q r e h f g =
    g
    ∙ ap (option_map (read_alive t (alive (get_or us i d).steps)))
    (f ∙ ap (option_map (read t i (kept_steps (get_or us i d).steps))) (h ∙ ap (option_map (read_folded t i (get_or us i d))) e))
    ∙ ap (λ (z : Tally). Some z) (sym (units_step t 0 us i d s lt ∙ ap (λ (n : ℕ). with_unit t n (get_or us i d) (with_units t 0 (take i us) s)) (zero-add i)))

still : (o : Option Ticket) (t : Ticket) (s : Tally) → tells (fact_of_alive o) t (record s { alive = true }) ≡ record s { alive = true }
still None t s = refl
still (Some u) t s =
    elim (same_ticket u t) as (λ b. cond b (record s { alive = true }) (record s { alive = true }) ≡ record s { alive = true }) [ true ↦ refl | false ↦ refl ]

one_alive : (t : Ticket) (es : List Entry) (i : ℕ) (s : Tally) → i < length es
    → tells (fact_of_alive (option_map (λ (e : Entry). e.ticket) (slice_get es i))) t (read_alive t (take i es) s) ≡ read_alive t (take (i + 1) es) s
one_alive t [] i s lt = absurd (omega arith)
one_alive t (e ∷ es) zero s lt =
    elim (same_ticket e.ticket t) as (λ b. cond b (record s { alive = true }) (record s { alive = s.alive }) ≡ record s { alive = (b || false) || s.alive }) [
      | true ↦ refl
      | false ↦ refl
    ]
one_alive t (e ∷ es) (suc i) s lt =
    elim (same_ticket e.ticket t) as (λ b. tells (fact_of_alive (option_map (λ (x : Entry). x.ticket) (slice_get es i))) t
    (record s { alive = (b || list_any (λ (x : Entry). same_ticket x.ticket t) (take i es)) || s.alive })
    ≡ record s { alive = (b || list_any (λ (x : Entry). same_ticket x.ticket t) (take (i + 1) es)) || s.alive }) [
      | true ↦ still (option_map (λ (x : Entry). x.ticket) (slice_get es i)) t s
      | false ↦ one_alive t es i s (omega arith)
    ]
    ∙ ap (λ (l : List Entry). read_alive t l s) (sym (next_taken e es i))

-- one task more of those alive
pub alive_step : (t : Ticket) (es : List Entry) (i : ℕ) → i < length es → (o p q : Option Tally) → p ≡ option_map (read_alive t (take i es)) o
    → q ≡ option_map (tells (fact_of_alive (option_map (λ (e : Entry). e.ticket) (slice_get es i))) t) p → q ≡ option_map (read_alive t (take (i + 1) es)) o
alive_step t es i lt None p q e g = g ∙ ap (option_map (tells (fact_of_alive (option_map (λ (e : Entry). e.ticket) (slice_get es i))) t)) e
alive_step t es i lt (Some s) p q e g =
    g ∙ ap (option_map (tells (fact_of_alive (option_map (λ (e : Entry). e.ticket) (slice_get es i))) t)) e
    ∙ ap (λ (z : Tally). Some z) (one_alive t es i s lt)

-- Folded Commits: the steps before a place, of which there is one more
dropped : (k n : ℕ) (step : Step) (past : List Step) → k ≡ suc n → drop k (step ∷ past) ≡ drop n past
dropped k n step past e = ap (λ (m : ℕ). drop m (step ∷ past)) e

not_dropped : (k : ℕ) (h : List Step) → k ≡ 0 → drop k h ≡ h
not_dropped k h e = ap (λ (m : ℕ). drop m h) e

left_last : (p n : ℕ) → n ≡ p → suc n - p ≡ suc 0
left_last p n e = omega (arith, e)

left_gone : (p n : ℕ) → n ≡ p → suc n - (p + 1) ≡ 0
left_gone p n e = omega (arith, e)

left_before : (p n : ℕ) → p < n → suc n - p ≡ suc (n - p)
left_before p n lt = omega (arith, lt)

left_next : (p n : ℕ) → p < n → suc n - (p + 1) ≡ suc (n - (p + 1))
left_next p n lt = omega (arith, lt)

drop_whole : (k : ℕ) (h : List Step) → k ≡ length h → drop k h ≡ []
drop_whole zero [] e = refl
drop_whole (suc k) [] e = refl
drop_whole zero (step ∷ past) e = absurd (omega (arith, e))
drop_whole (suc k) (step ∷ past) e = drop_whole k past (omega (arith, e))

pub none_folded : (h : List Step) → drop (length h - 0) h ≡ []
none_folded h = drop_whole (length h - 0) h (omega arith)

module _ (t : Ticket) (k : ℕ) (s : Tally) where
  one_read : (x y : Option Step) (a b c d : List Step) → x ≡ y → a ≡ b → c ≡ d
      → tells (fact_of_commit k (committed_one (option_map kind_of y))) t (read_commits t k b s) ≡ read_commits t k d s
      → tells (fact_of_commit k (committed_one (option_map kind_of x))) t (read_commits t k a s) ≡ read_commits t k c s
  one_read x y a b c d e f g is =
      ap (λ (z : Option Step). tells (fact_of_commit k (committed_one (option_map kind_of z))) t (read_commits t k a s)) e
      ∙ ap (λ (l : List Step). tells (fact_of_commit k (committed_one (option_map kind_of y))) t (read_commits t k l s)) f
      ∙ is
      ∙ sym (ap (λ (l : List Step). read_commits t k l s) g)

  one_folded : (h : List Step) (p : ℕ) → p < length h
      → tells (fact_of_commit k (committed_one (option_map kind_of (step_at p h)))) t (read_commits t k (drop (length h - p) h) s)
      ≡ read_commits t k (drop (length h - (p + 1)) h) s
  one_folded [] p lt = absurd (omega arith)
  one_folded (step ∷ past) p lt =
      elim (last_or_before p (length past) (omega arith)) [
        | inl before ↦
            one_read (step_at p (step ∷ past)) (step_at p past) (drop (length (step ∷ past) - p) (step ∷ past)) (drop (length past - p) past)
            (drop (length (step ∷ past) - (p + 1)) (step ∷ past)) (drop (length past - (p + 1)) past)
            (ap (λ b. cond b (Some step) (step_at p past)) (other_test (length past) p before))
            (dropped (length (step ∷ past) - p) (length past - p) step past (left_before p (length past) before))
            (dropped (length (step ∷ past) - (p + 1)) (length past - (p + 1)) step past (left_next p (length past) before))
            (one_folded past p before)
        | inr last ↦
            one_read (step_at p (step ∷ past)) (Some step) (drop (length (step ∷ past) - p) (step ∷ past)) past
            (drop (length (step ∷ past) - (p + 1)) (step ∷ past)) (step ∷ past)
            (ap (λ b. cond b (Some step) (step_at p past)) (same_test (length past) p last))
            (dropped (length (step ∷ past) - p) 0 step past (left_last p (length past) last))
            (not_dropped (length (step ∷ past) - (p + 1)) (step ∷ past) (left_gone p (length past) last))
            refl
      ]

pub folded_step : (t : Ticket) (k : ℕ) (h : List Step) (i : ℕ) → i < length h → (o p q : Option Tally)
    → p ≡ option_map (read_commits t k (drop (length h - i) h)) o
    → q ≡ option_map (tells (fact_of_commit k (committed_one (option_map kind_of (step_at i h)))) t) p
    → q ≡ option_map (read_commits t k (drop (length h - (i + 1)) h)) o
folded_step t k h i lt None p q e g = g ∙ ap (option_map (tells (fact_of_commit k (committed_one (option_map kind_of (step_at i h)))) t)) e
folded_step t k h i lt (Some s) p q e g =
    g ∙ ap (option_map (tells (fact_of_commit k (committed_one (option_map kind_of (step_at i h)))) t)) e
    ∙ ap (λ (z : Tally). Some z) (one_folded t k s h i lt)

-- by whether the unit knows them
pub folded_known : (t : Ticket) (k : ℕ) (u : PlainUnit) (o : Option Tally) → u.keeps_replies ≡ true
    → option_map (read_commits t k (drop (length u.steps - base_of u.steps) u.steps)) o ≡ option_map (read_folded t k u) o
folded_known t k u None e = refl
folded_known t k u (Some s) e =
    ap (λ (z : Tally). Some z) (sym (ap (λ b. cond b (read_commits t k (drop (length u.steps - base_of u.steps) u.steps) s) s) e))

pub folded_unknown : (t : Ticket) (k : ℕ) (u : PlainUnit) (o : Option Tally) → u.keeps_replies ≡ false → o ≡ option_map (read_folded t k u) o
folded_unknown t k u None e = refl
folded_unknown t k u (Some s) e =
    ap (λ (z : Tally). Some z) (sym (ap (λ b. cond b (read_commits t k (drop (length u.steps - base_of u.steps) u.steps) s) s) e))
