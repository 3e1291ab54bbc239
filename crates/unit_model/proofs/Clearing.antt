-- A place is clear exactly where each task that it met has left.
use Rattle.std.proofs.Common.{◌≡◌, ℕ, Bool, true, false, not, ◌||◌, ◌&&◌, eqb, cond, List, [], ◌∷◌, ◌++◌, filter, length, Some, None, refl, sym, ◌∙◌, ap, is_some}
use Rattle.std.specs.List.{AllByRecursion, list_all}
use Rattle.std.proofs.lemmas.List.{append_assoc}
use Rattle.ring_core.specs.declared.log.Ticket.{Ticket}
use Rattle.unit_model.specs.Tasks.{Entry, same_ticket, task_of, without, meets}
use Rattle.unit_model.specs.Steps.{Step, alive, is_alive, has_entered, has_left}
use Rattle.unit_model.specs.Clearing.{met_by, met_at, is_clear, AreGone}
use Rattle.unit_model.specs.Contents.{Opening}
use Rattle.unit_model.specs.Lawful.{IsLawful}
use Rattle.unit_model.proofs.Tickets.{same-true, itself, clash, or_right}
use Rattle.unit_model.proofs.Fresh.{fresh, none_of, above_fresh}
use Rattle.unit_model.proofs.Distinct.{task_push_other, task_without_other, alive_distinct, without_none}

abbrev pub Each : (Entry → Type 0) → List Entry → Type 0
Each P es = AllByRecursion P es

pub each_map : (P Q : Entry → Type 0) (es : List Entry) → ((e : Entry) → P e → Q e) → Each P es → Each Q es
each_map P Q [] f h = tt
each_map P Q (e ∷ es) f h = (f e h.0, each_map P Q es f h.1)

pub each_filter : (P : Entry → Type 0) (p : Entry → Bool) (es : List Entry) → Each P es → Each P (filter p es)
each_filter P p [] h = tt
each_filter P p (e ∷ es) h = elim (p e) as (λ b. Each P (cond b (e ∷ filter p es) (filter p es))) [ true ↦ (h.0, each_filter P p es h.1) | false ↦ each_filter P p es h.1 ]

found_in : (before : List Entry) (f : Entry) (es : List Entry) → is_some (task_of f.ticket (before ++ f ∷ es)) ≡ true
found_in [] f es = ap (λ b. is_some (cond b (Some f) (task_of f.ticket es))) (itself f.ticket)
found_in (x ∷ before) f es =
    elim (same_ticket x.ticket f.ticket) as (λ b. is_some (cond b (Some x) (task_of f.ticket (before ++ f ∷ es))) ≡ true) [ true ↦ refl | false ↦ found_in before f es ]

found_rest : (all before es : List Entry) → before ++ es ≡ all → Each (λ e. is_some (task_of e.ticket all) ≡ true) es
found_rest all before [] q = tt
found_rest all before (e ∷ es) q = (
  ap (λ w. is_some (task_of e.ticket w)) (sym q) ∙ found_in before e es,
  found_rest all (before ++ e ∷ []) es (append_assoc before (e ∷ []) es ∙ q),
)

-- a task that stands in the list is found there
pub all_found : (es : List Entry) → Each (λ e. is_some (task_of e.ticket es) ≡ true) es
all_found es = found_rest es [] es refl

found_push : (t : Ticket) (f : Entry) (es : List Entry) → is_some (task_of t es) ≡ true → is_some (task_of t (es ++ f ∷ [])) ≡ true
found_push t f [] h = cc
found_push t f (x ∷ es) h =
    (elim (same_ticket x.ticket t) as (λ b. is_some (cond b (Some x) (task_of t es)) ≡ true → is_some (cond b (Some x) (task_of t (es ++ f ∷ []))) ≡ true) [
      | true ↦ λ k. refl
      | false ↦ λ k. found_push t f es k
    ]) h

-- alive, or left
abbrev IsOrWas : List Step → Entry → Type 0
IsOrWas h e = (is_alive e.ticket h || has_left e.ticket h) ≡ true

by_either : (a b c : Bool) → (a ≡ true → c ≡ true) → (a || b) ≡ true → (c || b) ≡ true
by_either true b c f h = ap (λ x. x || b) (f refl)
by_either false b c f h = or_right c b h

was_on : (s : Step) (past : List Step) (e : Entry) → IsOrWas past e → IsOrWas (s ∷ past) e
was_on (Step.Enter f) past e q = by_either (is_alive e.ticket past) (has_left e.ticket past) (is_alive e.ticket (Step.Enter f ∷ past)) (λ k. found_push e.ticket f (alive past) k) q
was_on (Step.Leave u) past e q =
    elim (same_ticket u e.ticket) as (λ b. (same_ticket u e.ticket ≡ b) → (is_some (task_of e.ticket (without u (alive past))) || (b || has_left e.ticket past)) ≡ true) [
      | true ↦ λ k. or_right (is_some (task_of e.ticket (without u (alive past)))) true refl
      | false ↦ λ k. ap (λ x. is_some x || has_left e.ticket past) (task_without_other e.ticket u (alive past) k) ∙ q
    ] refl
was_on (Step.Full u) past e q = q
was_on (Step.Resize blocks) past e q = q
was_on (Step.Commit u r) past e q = q
was_on (Step.Busy u) past e q = q
was_on (Step.Abort rule) past e q = q
was_on (Step.Reset c) past e q = q

alive_was : (past : List Step) → Each (IsOrWas past) (alive past)
alive_was past = each_map (λ e. is_some (task_of e.ticket (alive past)) ≡ true) (IsOrWas past) (alive past) (λ e k. ap (λ x. x || has_left e.ticket past) k) (all_found (alive past))

met_was : (s : Step) (past : List Step) → Each (IsOrWas past) (met_by s past)
met_was (Step.Abort rule) past = each_filter (IsOrWas past) (meets rule) (alive past) (alive_was past)
met_was (Step.Reset c) past = alive_was past
met_was (Step.Enter f) past = tt
met_was (Step.Full u) past = tt
met_was (Step.Resize blocks) past = tt
met_was (Step.Commit u r) past = tt
met_was (Step.Busy u) past = tt
met_was (Step.Leave u) past = tt

met_at_was : (place : ℕ) (h : List Step) → Each (IsOrWas h) (met_at place h)
met_at_was place [] = tt
met_at_was place (s ∷ past) =
    elim (eqb (length past) place) as (λ b. Each (IsOrWas (s ∷ past)) (cond b (met_by s past) (met_at place past))) [
      | true ↦ each_map (IsOrWas past) (IsOrWas (s ∷ past)) (met_by s past) (was_on s past) (met_was s past)
      | false ↦ each_map (IsOrWas past) (IsOrWas (s ∷ past)) (met_at place past) (was_on s past) (met_at_was place past)
    ]

both_on : (a b : Bool) → (a && b) ≡ true → (a ≡ true) × (b ≡ true)
both_on true b h = (refl, h)
both_on false b h = absurd (cc)

gone_of : (a b : Bool) → (a || b) ≡ true → not a ≡ true → b ≡ true
gone_of true b h n = cc
gone_of false b h n = h

clear_each : (h : List Step) (es : List Entry) → Each (IsOrWas h) es → list_all (λ (e : Entry). not (is_alive e.ticket h)) es ≡ true → Each (λ e. has_left e.ticket h ≡ true) es
clear_each h [] w c = tt
clear_each h (e ∷ es) w c =
    let b = both_on (not (is_alive e.ticket h)) (list_all (λ (f : Entry). not (is_alive f.ticket h)) es) c in
    (gone_of (is_alive e.ticket h) (has_left e.ticket h) w.0 b.0, clear_each h es w.1 b.1)

pub clear_gone : (place : ℕ) (h : List Step) → is_clear place h ≡ true → AreGone place h
clear_gone place h c = clear_each h (met_at place h) (met_at_was place h) c

nothing : {X : Type 0} {x : X} → None ≡ Some x → ⊥
nothing e = cc

entered_there : (t : Ticket) (past : List Step) (e : Entry) → task_of t (alive past) ≡ Some e → has_entered t past ≡ true
entered_there t past e at =
    elim (has_entered t past) as (λ b. (has_entered t past ≡ b) → b ≡ true) [
      | true ↦ λ k. refl
      | false ↦ λ k. absurd (nothing (sym (none_of t (alive past) (fresh t past k)) ∙ at))
    ] refl

-- what has left had entered
left_entered : (o : Opening) (t : Ticket) (h : List Step) → IsLawful o h → has_left t h ≡ true → has_entered t h ≡ true
left_entered o t [] l k = absurd (cc)
left_entered o t (Step.Enter e ∷ past) l k = or_right (same_ticket e.ticket t) (has_entered t past) (left_entered o t past l.0 k)
left_entered o t (Step.Full u ∷ past) l k = left_entered o t past l.0 k
left_entered o t (Step.Resize blocks ∷ past) l k = left_entered o t past l.0 k
left_entered o t (Step.Commit u r ∷ past) l k = left_entered o t past l.0 k
left_entered o t (Step.Busy u ∷ past) l k = left_entered o t past l.0 k
left_entered o t (Step.Abort rule ∷ past) l k = left_entered o t past l.0 k
left_entered o t (Step.Reset c ∷ past) l k = left_entered o t past l.0 k
left_entered o t (Step.Leave u ∷ past) l k =
    (elim (same_ticket u t) as (λ b. (same_ticket u t ≡ b) → (b || has_left t past) ≡ true → has_entered t past ≡ true) [
      | true ↦ λ q m. entered_there t past l.1.0 (ap (λ n. task_of n (alive past)) (sym (same-true u t q)) ∙ l.1.1)
      | false ↦ λ q m. left_entered o t past l.0 m
    ]) refl k

-- who entered doesn't enter again
pub enters_once : (o : Opening) (e : Entry) (t : Ticket) (past : List Step) → IsLawful o (Step.Enter e ∷ past) → has_entered t past ≡ true → same_ticket e.ticket t ≡ false
enters_once o e t past l n =
    elim (same_ticket e.ticket t) as (λ b. (same_ticket e.ticket t ≡ b) → b ≡ false) [
      | true ↦ λ k. absurd (clash (sym n ∙ ap (λ u. has_entered u past) (sym (same-true e.ticket t k)) ∙ above_fresh o e.ticket past l.0 l.1.1))
      | false ↦ λ k. refl
    ] refl

-- what has left isn't alive
pub left_not_alive : (o : Opening) (t : Ticket) (h : List Step) → IsLawful o h → has_left t h ≡ true → is_alive t h ≡ false
left_not_alive o t [] l k = refl
left_not_alive o t (Step.Enter e ∷ past) l k =
    ap (λ x. is_some x) (task_push_other t e (alive past) (enters_once o e t past l (left_entered o t past l.0 k))) ∙ left_not_alive o t past l.0 k
left_not_alive o t (Step.Full u ∷ past) l k = left_not_alive o t past l.0 k
left_not_alive o t (Step.Resize blocks ∷ past) l k = left_not_alive o t past l.0 k
left_not_alive o t (Step.Commit u r ∷ past) l k = left_not_alive o t past l.0 k
left_not_alive o t (Step.Busy u ∷ past) l k = left_not_alive o t past l.0 k
left_not_alive o t (Step.Abort rule ∷ past) l k = left_not_alive o t past l.0 k
left_not_alive o t (Step.Reset c ∷ past) l k = left_not_alive o t past l.0 k
left_not_alive o t (Step.Leave u ∷ past) l k =
    (elim (same_ticket u t) as (λ b. (same_ticket u t ≡ b) → (b || has_left t past) ≡ true → is_some (task_of t (without u (alive past))) ≡ false) [
      | true ↦ λ q m. ap (λ n. is_some (task_of n (without u (alive past)))) (sym (same-true u t q)) ∙ ap (λ x. is_some x) (without_none u (alive past) (alive_distinct o past l.0))
      | false ↦ λ q m. ap (λ x. is_some x) (task_without_other t u (alive past) q) ∙ left_not_alive o t past l.0 m
    ]) refl k

gone_each : (o : Opening) (h : List Step) (es : List Entry) → IsLawful o h → Each (λ e. has_left e.ticket h ≡ true) es → list_all (λ (e : Entry). not (is_alive e.ticket h)) es ≡ true
gone_each o h [] l g = refl
gone_each o h (e ∷ es) l g =
    ap (λ b. not b && list_all (λ (f : Entry). not (is_alive f.ticket h)) es) (left_not_alive o e.ticket h l g.0) ∙ gone_each o h es l g.1

pub gone_clear : (o : Opening) (place : ℕ) (h : List Step) → IsLawful o h → AreGone place h → is_clear place h ≡ true
gone_clear o place h l g = gone_each o h (met_at place h) l g
