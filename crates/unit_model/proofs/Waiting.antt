-- A place is clear where no task that entered before it is alive that the rule there meets.
use Rattle.std.proofs.Common.{◌≡◌, ℕ, ◌<◌, ◌≤◌, Bool, true, false, not, ◌&&◌, ◌||◌, eqb, ltb, cond, List, [], ◌∷◌, ◌++◌, filter, map, length, suc, Some, None, is_some, refl, sym, ◌∙◌, ap, subst, arith}
use Rattle.std.specs.List.{list_any, list_all}
use Rattle.std.proofs.lemmas.Bool.{eqb-true, lt-ltb, le-ltb}
use Rattle.std.proofs.lemmas.List.{append-nil}
use Rattle.std.proofs.lemmas.List.Elements.{filter-append}
use Rattle.ring_core.specs.declared.log.Ticket.{Ticket}
use Rattle.unit_model.specs.declared.rule.Rule.{Rule}
use Rattle.unit_model.specs.declared.rule.Rule.TheVariants as rules
use Rattle.unit_model.specs.Tasks.{Entry, same_ticket, task_of, without, meets}
use Rattle.unit_model.specs.Steps.{Step, alive, is_alive, has_entered}
use Rattle.unit_model.specs.Seen.{seen, tasks_of, entered_at, any_before}
use Rattle.unit_model.specs.Clearing.{met_by, met_at, is_clear, rule_of, rule_at}
use Rattle.unit_model.specs.Contents.{Opening}
use Rattle.unit_model.specs.Lawful.{IsLawful}
use Rattle.unit_model.proofs.Tickets.{itself, apart, or_right, same-true}
use Rattle.unit_model.proofs.Distinct.{task_push_other, task_without_other, alive_distinct, without_none}
use Rattle.unit_model.proofs.Clearing.{Each, each_map, each_filter, all_found, enters_once}
use Rattle.unit_model.proofs.Fewer.{all_entered}
use Rattle.unit_model.proofs.Releasing.{each_both}
use Rattle.unit_model.proofs.Filtered.{filter_same, filter_twice, without_filter, any_filter, all_not}

nothing : {X : Type 0} {x : X} → None ≡ Some x → ⊥
nothing e = cc

one_rule : {x y : Rule} → Some x ≡ Some y → x ≡ y
one_rule e = cc

-- it entered before the place, and the rule meets it
abbrev earlier : ℕ → Rule → List Step → Entry → Bool
earlier place rule h e = ltb (entered_at e.ticket h) place && meets rule e

-- it is alive
abbrev lives : List Step → Entry → Bool
lives h e = is_alive e.ticket h

abbrev HasEntered : List Step → Entry → Type 0
HasEntered h e = has_entered e.ticket h ≡ true

-- what has entered did so before now
before_now : (t : Ticket) (h : List Step) → has_entered t h ≡ true → entered_at t h < length h
before_now t [] n = absurd (cc)
before_now t (Step.Enter e ∷ past) n =
    (elim (same_ticket e.ticket t) as (λ b. (b || has_entered t past) ≡ true → cond b (length past) (entered_at t past) < suc (length past)) [
      | true ↦ λ k. omega arith
      | false ↦ λ k. let lt = before_now t past k in omega (arith, lt)
    ]) n
before_now t (Step.Full u ∷ past) n = let lt = before_now t past n in omega (arith, lt)
before_now t (Step.Resize blocks ∷ past) n = let lt = before_now t past n in omega (arith, lt)
before_now t (Step.Commit u r ∷ past) n = let lt = before_now t past n in omega (arith, lt)
before_now t (Step.Busy u ∷ past) n = let lt = before_now t past n in omega (arith, lt)
before_now t (Step.Abort rule ∷ past) n = let lt = before_now t past n in omega (arith, lt)
before_now t (Step.Reset c ∷ past) n = let lt = before_now t past n in omega (arith, lt)
before_now t (Step.Leave u ∷ past) n = let lt = before_now t past n in omega (arith, lt)

entered_on : (s : Step) (past : List Step) (e : Entry) → HasEntered past e → HasEntered (s ∷ past) e
entered_on (Step.Enter f) past e n = or_right (same_ticket f.ticket e.ticket) (has_entered e.ticket past) n
entered_on (Step.Full u) past e n = n
entered_on (Step.Resize blocks) past e n = n
entered_on (Step.Commit u r) past e n = n
entered_on (Step.Busy u) past e n = n
entered_on (Step.Abort rule) past e n = n
entered_on (Step.Reset c) past e n = n
entered_on (Step.Leave u) past e n = n

met_entered : (s : Step) (past : List Step) → Each (HasEntered past) (met_by s past)
met_entered (Step.Abort rule) past = each_filter (HasEntered past) (meets rule) (alive past) (all_entered past)
met_entered (Step.Reset c) past = all_entered past
met_entered (Step.Enter f) past = tt
met_entered (Step.Full u) past = tt
met_entered (Step.Resize blocks) past = tt
met_entered (Step.Commit u r) past = tt
met_entered (Step.Busy u) past = tt
met_entered (Step.Leave u) past = tt

-- what a step met had entered
met_at_entered : (place : ℕ) (h : List Step) → Each (HasEntered h) (met_at place h)
met_at_entered place [] = tt
met_at_entered place (s ∷ past) =
    elim (eqb (length past) place) as (λ b. Each (HasEntered (s ∷ past)) (cond b (met_by s past) (met_at place past))) [
      | true ↦ each_map (HasEntered past) (HasEntered (s ∷ past)) (met_by s past) (entered_on s past) (met_entered s past)
      | false ↦ each_map (HasEntered past) (HasEntered (s ∷ past)) (met_at place past) (entered_on s past) (met_at_entered place past)
    ]

-- a step with a rule stands within the history
within : (place : ℕ) (h : List Step) (rule : Rule) → rule_at place h ≡ Some rule → place < length h
within place [] rule r = absurd (nothing r)
within place (s ∷ past) rule r =
    (elim (eqb (length past) place) as (λ c. (eqb (length past) place ≡ c) → cond c (rule_of s) (rule_at place past) ≡ Some rule → place < suc (length past)) [
      | true ↦ λ k q. let same = eqb-true (length past) place k in omega (arith, same)
      | false ↦ λ k q. let lt = within place past rule q in omega (arith, lt)
    ]) refl r

and_true : (a : Bool) → (a && true) ≡ a
and_true true = refl
and_true false = refl

and_false : (a : Bool) → (a && false) ≡ false
and_false true = refl
and_false false = refl

and_other : (a b : Bool) → (a && b) ≡ (b && a)
and_other true b = sym (and_true b)
and_other false b = sym (and_false b)

each_all : (P : Entry → Type 0) (es : List Entry) → ((e : Entry) → P e) → Each P es
each_all P [] h = tt
each_all P (e ∷ es) h = (h e, each_all P es h)

was_before : (past : List Step) (e : Entry) → HasEntered past e → ltb (entered_at e.ticket past) (length past) ≡ true
was_before past e n = lt-ltb (entered_at e.ticket past) (length past) (before_now e.ticket past n)

-- what an Abort met: all that were alive had entered before it
at_abort : (rule : Rule) (past : List Step) → filter (lives past) (filter (meets rule) (alive past)) ≡ filter (earlier (length past) rule past) (alive past)
at_abort rule past =
    filter_twice (meets rule) (lives past) (alive past)
    ∙ filter_same (λ e. meets rule e && lives past e) (earlier (length past) rule past) (alive past)
    (each_both (λ e. lives past e ≡ true) (HasEntered past) (λ e. (meets rule e && lives past e) ≡ earlier (length past) rule past e) (alive past)
    (λ e live n. ap (λ b. meets rule e && b) live ∙ and_true (meets rule e) ∙ sym (ap (λ b. b && meets rule e) (was_before past e n)))
    (all_found (alive past)) (all_entered past))

at_reset : (past : List Step) → filter (lives past) (alive past) ≡ filter (earlier (length past) rules.All past) (alive past)
at_reset past =
    filter_same (lives past) (earlier (length past) rules.All past) (alive past)
    (each_both (λ e. lives past e ≡ true) (HasEntered past) (λ e. lives past e ≡ earlier (length past) rules.All past e) (alive past)
    (λ e live n. live ∙ sym (ap (λ b. b && true) (was_before past e n)))
    (all_found (alive past)) (all_entered past))

abbrev Agree : ℕ → Rule → List Step → List Entry → Type 0
Agree place rule h met = filter (lives h) met ≡ filter (earlier place rule h) (alive h)

at_step : (s : Step) (past : List Step) (rule : Rule) → rule_of s ≡ Some rule → Agree (length past) rule (s ∷ past) (met_by s past)
at_step (Step.Abort now) past rule r = subst (λ w. Agree (length past) w (Step.Abort now ∷ past) (met_by (Step.Abort now) past)) (one_rule r) (at_abort now past)
at_step (Step.Reset c) past rule r = subst (λ w. Agree (length past) w (Step.Reset c ∷ past) (met_by (Step.Reset c) past)) (one_rule r) (at_reset past)
at_step (Step.Enter f) past rule r = absurd (nothing r)
at_step (Step.Full u) past rule r = absurd (nothing r)
at_step (Step.Resize blocks) past rule r = absurd (nothing r)
at_step (Step.Commit u x) past rule r = absurd (nothing r)
at_step (Step.Busy u) past rule r = absurd (nothing r)
at_step (Step.Leave u) past rule r = absurd (nothing r)

-- who enters later changes nothing for those that the step met
lives_enter : (o : Opening) (f : Entry) (past : List Step) (met : List Entry) → IsLawful o (Step.Enter f ∷ past) → Each (HasEntered past) met
    → filter (lives (Step.Enter f ∷ past)) met ≡ filter (lives past) met
lives_enter o f past met l n =
    filter_same (lives (Step.Enter f ∷ past)) (lives past) met
    (each_map (HasEntered past) (λ e. lives (Step.Enter f ∷ past) e ≡ lives past e) met
    (λ e k. ap (λ x. is_some x) (task_push_other e.ticket f (alive past) (enters_once o f e.ticket past l k))) n)

-- nor is it earlier
earlier_enter : (o : Opening) (place : ℕ) (rule : Rule) (f : Entry) (past : List Step) → IsLawful o (Step.Enter f ∷ past) → place ≤ length past
    → filter (earlier place rule (Step.Enter f ∷ past)) (alive past ++ f ∷ []) ≡ filter (earlier place rule past) (alive past)
earlier_enter o place rule f past l le =
    let test = earlier place rule (Step.Enter f ∷ past) in
    let late : test f ≡ false =
    ap (λ b. ltb (cond b (length past) (entered_at f.ticket past)) place && meets rule f) (itself f.ticket)
    ∙ ap (λ b. b && meets rule f) (le-ltb (length past) place le) in
    filter-append test (alive past) (f ∷ [])
    ∙ ap (λ b. filter test (alive past) ++ cond b (f ∷ []) []) late
    ∙ append-nil (filter test (alive past))
    ∙ filter_same test (earlier place rule past) (alive past)
    (each_map (HasEntered past) (λ e. test e ≡ earlier place rule past e) (alive past)
    (λ e k. ap (λ b. ltb (cond b (length past) (entered_at e.ticket past)) place && meets rule e) (enters_once o f e.ticket past l k))
    (all_entered past))

-- who leaves is alive no more
lives_leave : (o : Opening) (t : Ticket) (past : List Step) (e : Entry) → IsLawful o past → lives (Step.Leave t ∷ past) e ≡ (lives past e && not (same_ticket e.ticket t))
lives_leave o t past e l =
    elim (same_ticket e.ticket t) as (λ b. (same_ticket e.ticket t ≡ b) → is_some (task_of e.ticket (without t (alive past))) ≡ (is_some (task_of e.ticket (alive past)) && not b)) [
      | true ↦ λ k.
          ap (λ n. is_some (task_of n (without t (alive past)))) (same-true e.ticket t k)
          ∙ ap (λ x. is_some x) (without_none t (alive past) (alive_distinct o past l))
          ∙ sym (and_false (is_some (task_of e.ticket (alive past))))
      | false ↦ λ k.
          ap (λ x. is_some x) (task_without_other e.ticket t (alive past) (apart e.ticket t k))
          ∙ sym (and_true (is_some (task_of e.ticket (alive past))))
    ] refl

agree_leave : (o : Opening) (place : ℕ) (rule : Rule) (t : Ticket) (past : List Step) (met : List Entry) → IsLawful o past → Agree place rule past met → Agree place rule (Step.Leave t ∷ past) met
agree_leave o place rule t past met l h =
    let stays = (λ (e : Entry). not (same_ticket e.ticket t)) in
    let test = earlier place rule past in
    filter_same (lives (Step.Leave t ∷ past)) (λ e. lives past e && stays e) met
    (each_all (λ e. lives (Step.Leave t ∷ past) e ≡ (lives past e && stays e)) met (λ e. lives_leave o t past e l))
    ∙ sym (filter_twice (lives past) stays met)
    ∙ ap (λ w. filter stays w) h
    ∙ filter_twice test stays (alive past)
    ∙ filter_same (λ e. test e && stays e) (λ e. stays e && test e) (alive past)
    (each_all (λ e. (test e && stays e) ≡ (stays e && test e)) (alive past) (λ e. and_other (test e) (stays e)))
    ∙ sym (filter_twice stays test (alive past))
    ∙ ap (λ w. filter test w) (sym (without_filter t (alive past) (alive_distinct o past l)))

-- one step more
agree_on : (o : Opening) (place : ℕ) (rule : Rule) (s : Step) (past : List Step) (met : List Entry) → IsLawful o (s ∷ past) → place ≤ length past → Each (HasEntered past) met
    → Agree place rule past met → Agree place rule (s ∷ past) met
agree_on o place rule (Step.Enter f) past met l le n h = lives_enter o f past met l n ∙ h ∙ sym (earlier_enter o place rule f past l le)
agree_on o place rule (Step.Full u) past met l le n h = h
agree_on o place rule (Step.Resize blocks) past met l le n h = h
agree_on o place rule (Step.Commit u r) past met l le n h = h
agree_on o place rule (Step.Busy u) past met l le n h = h
agree_on o place rule (Step.Abort now) past met l le n h = h
agree_on o place rule (Step.Reset c) past met l le n h = h
agree_on o place rule (Step.Leave t) past met l le n h = agree_leave o place rule t past met l.0 h

-- of those that the step at a place met, those alive are the ones that entered before it and that its rule meets
pub met_alive : (o : Opening) (place : ℕ) (rule : Rule) (h : List Step) → IsLawful o h → rule_at place h ≡ Some rule
    → filter (λ e. is_alive e.ticket h) (met_at place h) ≡ filter (λ e. ltb (entered_at e.ticket h) place && meets rule e) (alive h)
met_alive o place rule [] l r = absurd (nothing r)
met_alive o place rule (s ∷ past) l r =
    (elim (eqb (length past) place) as (λ c. (eqb (length past) place ≡ c) → cond c (rule_of s) (rule_at place past) ≡ Some rule → Agree place rule (s ∷ past) (cond c (met_by s past) (met_at place past))) [
      | true ↦ λ k q. subst (λ n. Agree n rule (s ∷ past) (met_by s past)) (eqb-true (length past) place k) (at_step s past rule q)
      | false ↦ λ k q.
          let lt = within place past rule q in
          agree_on o place rule s past (met_at place past) l (omega (arith, lt)) (met_at_entered place past) (met_alive o place rule past l.0 q)
    ]) refl r

any_seen : (place : ℕ) (rule : Rule) (h : List Step) (es : List Entry) → list_any (earlier place rule h) es ≡ any_before place rule (map (seen h) es)
any_seen place rule h [] = refl
any_seen place rule h (e ∷ es) = ap (λ b. earlier place rule h e || b) (any_seen place rule h es)

-- by what a task set keeps, a place is clear where its rule meets none that entered before it
pub clear_is : (o : Opening) (place : ℕ) (rule : Rule) (h : List Step) → IsLawful o h → rule_at place h ≡ Some rule → is_clear place h ≡ not (any_before place rule (tasks_of h))
clear_is o place rule h l r =
    all_not (lives h) (met_at place h)
    ∙ ap not (any_filter (lives h) (met_at place h) ∙ ap (λ w. list_any (λ (e : Entry). true) w) (met_alive o place rule h l r) ∙ sym (any_filter (earlier place rule h) (alive h)) ∙ any_seen place rule h (alive h))

none_by : (s : Step) (past : List Step) → rule_of s ≡ None → met_by s past ≡ []
none_by (Step.Abort rule) past r = absurd (nothing (sym r))
none_by (Step.Reset c) past r = absurd (nothing (sym r))
none_by (Step.Enter f) past r = refl
none_by (Step.Full u) past r = refl
none_by (Step.Resize blocks) past r = refl
none_by (Step.Commit u x) past r = refl
none_by (Step.Busy u) past r = refl
none_by (Step.Leave u) past r = refl

none_at : (place : ℕ) (h : List Step) → rule_at place h ≡ None → met_at place h ≡ []
none_at place [] r = refl
none_at place (s ∷ past) r =
    (elim (eqb (length past) place) as (λ c. cond c (rule_of s) (rule_at place past) ≡ None → cond c (met_by s past) (met_at place past) ≡ []) [
      | true ↦ λ q. none_by s past q
      | false ↦ λ q. none_at place past q
    ]) r

-- a place where no Abort and no Reset stands waits for none
pub clear_none : (place : ℕ) (h : List Step) → rule_at place h ≡ None → is_clear place h ≡ true
clear_none place h r = ap (λ w. list_all (λ (e : Entry). not (is_alive e.ticket h)) w) (none_at place h r)
