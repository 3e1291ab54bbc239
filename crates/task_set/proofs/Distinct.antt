-- The tickets of the tasks of a set stay distinct.
use Rattle.std.proofs.Common.{Bool, ◌≡◌, ℕ, ◌≤◌, true, false, cond, List, [], ◌∷◌, ◌++◌, length, take, map, Some, None, refl, sym, ◌∙◌, ap, subst, arith}
use Rattle.std.specs.List.{refill, remove}
use Rattle.std.proofs.lemmas.List.{map-append, append-nil, drop_all, take_all, length-map}
use Rattle.ring_core.specs.declared.log.Ticket.{Ticket}
use Rattle.unit_model.specs.Tasks.{Entry, same_ticket, task_of, AreDistinct}
use Rattle.unit_model.specs.Seen.{Seen, finished, with_mark, freed}
use Rattle.unit_model.specs.declared.rule.Rule.{Rule}
use Rattle.unit_model.specs.declared.reason.Reason.{Reason}
use Rattle.unit_model.proofs.Tickets.{apart}
use Rattle.unit_model.proofs.Distinct.{task_push_other}
use Rattle.task_set.specs.Tasks.{PlainTask}
use Rattle.task_set.specs.Inner.Tasks.{entries_of, moved, without}

absent_found : (e : Entry) → Some e ≡ None → ⊥
absent_found e h = cc

-- what isn't found is not found after one more has gone
none_without : (t u : Ticket) (tasks : List PlainTask) → task_of t (entries_of tasks) ≡ None → task_of t (entries_of (without u tasks)) ≡ None
none_without t u [] h = refl
none_without t u (x ∷ tasks) h =
    let e = x.seen.entry in
    (elim (same_ticket e.ticket t) as (λ b. cond b (Some e) (task_of t (entries_of tasks)) ≡ None → (same_ticket e.ticket t ≡ b) → task_of t (entries_of (cond (same_ticket e.ticket u) tasks (x ∷ without u tasks))) ≡ None) [
      | true ↦ λ k q. absurd (absent_found e k)
      | false ↦ λ k q.
          elim (same_ticket e.ticket u) as (λ c. task_of t (entries_of (cond c tasks (x ∷ without u tasks))) ≡ None) [
            | true ↦ k
            | false ↦ ap (λ b. cond b (Some e) (task_of t (entries_of (without u tasks)))) q ∙ none_without t u tasks k
          ]
    ]) h refl

pub distinct_without : (u : Ticket) (tasks : List PlainTask) → AreDistinct (entries_of tasks) → AreDistinct (entries_of (without u tasks))
distinct_without u [] d = tt
distinct_without u (x ∷ tasks) d =
    elim (same_ticket x.seen.entry.ticket u) as (λ b. AreDistinct (entries_of (cond b tasks (x ∷ without u tasks)))) [
      | true ↦ d.1
      | false ↦ (none_without x.seen.entry.ticket u tasks d.0, distinct_without u tasks d.1)
    ]

push : (f : Entry) (es : List Entry) → task_of f.ticket es ≡ None → AreDistinct es → AreDistinct (es ++ f ∷ [])
push f [] h d = (refl, tt)
push f (x ∷ es) h d =
    (elim (same_ticket x.ticket f.ticket) as (λ b. (same_ticket x.ticket f.ticket ≡ b) → cond b (Some x) (task_of f.ticket es) ≡ None → AreDistinct (x ∷ (es ++ f ∷ []))) [
      | true ↦ λ q k. absurd (absent_found x k)
      | false ↦ λ q k. (task_push_other x.ticket f es (apart x.ticket f.ticket q) ∙ d.0, push f es k d.1)
    ]) refl h

pub distinct_push : (t : PlainTask) (tasks : List PlainTask) → task_of t.seen.entry.ticket (entries_of tasks) ≡ None → AreDistinct (entries_of tasks) → AreDistinct (entries_of (tasks ++ t ∷ []))
distinct_push t tasks h d =
    subst AreDistinct (sym (map-append (λ (x : PlainTask). x.seen.entry) tasks (t ∷ []))) (push t.seen.entry (entries_of tasks) h d)

-- a change of each task that leaves its entry as it is
entries_kept : (f : Seen → Seen) → ((s : Seen) → (f s).entry ≡ s.entry) → (tasks : List PlainTask) → entries_of (map (moved f) tasks) ≡ entries_of tasks
entries_kept f same [] = refl
entries_kept f same (x ∷ tasks) = ap (λ e. e ∷ entries_of (map (moved f) tasks)) (same x.seen) ∙ ap (λ w. x.seen.entry ∷ w) (entries_kept f same tasks)

pub distinct_finished : (t : Ticket) (well : Bool) (tasks : List PlainTask) → AreDistinct (entries_of tasks)
    → AreDistinct (entries_of (map (moved (finished t well)) tasks))
distinct_finished t well tasks d = subst AreDistinct (sym (entries_kept (finished t well) (λ s. refl) tasks)) d

pub distinct_with_mark : (rule : Rule) (reason : Reason) (tasks : List PlainTask) → AreDistinct (entries_of tasks) → AreDistinct (entries_of (map (moved (with_mark rule reason)) tasks))
distinct_with_mark rule reason tasks d = subst AreDistinct (sym (entries_kept (with_mark rule reason) (λ s. refl) tasks)) d

pub distinct_freed : (alive : List Entry) (tasks : List PlainTask) → AreDistinct (entries_of tasks) → AreDistinct (entries_of (map (moved (freed alive)) tasks))
distinct_freed alive tasks d = subst AreDistinct (sym (entries_kept (freed alive) (λ s. refl) tasks)) d

-- a task that enters under a ticket that isn't there
pub distinct_entered : (e : Entry) (t : PlainTask) (old tasks new : List PlainTask) → task_of e.ticket (entries_of old) ≡ None → t.seen.entry ≡ e → tasks ≡ old → new ≡ tasks ++ t ∷ []
    → AreDistinct (entries_of tasks) → AreDistinct (entries_of new)
distinct_entered e t old tasks new fresh is same pushed d =
    subst (λ w. AreDistinct (entries_of w)) (sym pushed)
    (distinct_push t tasks (ap (λ (f : Entry). task_of f.ticket (entries_of tasks)) is ∙ ap (λ w. task_of e.ticket (entries_of w)) same ∙ fresh) d)

filled : {X : Type 0} (xs ys : List X) → length ys ≡ length xs → refill (length xs) xs ys ≡ ys
filled xs ys h =
    ap (λ w. take (length xs) (ys ++ w)) (drop_all (length ys) xs (omega arith)) ∙ ap (take (length xs)) (append-nil ys) ∙ take_all (length xs) ys (omega arith)

-- tasks that were written where they stood
pub distinct_written : (old written new : List PlainTask) → new ≡ refill (length old) old written → length written ≡ length old → AreDistinct (entries_of written) → AreDistinct (entries_of new)
distinct_written old written new is same d = subst (λ w. AreDistinct (entries_of w)) (sym (is ∙ filled old written same)) d

-- tasks that were changed where they stood
pub distinct_changed : (f : PlainTask → PlainTask) (old lent written new : List PlainTask) → new ≡ refill (length old) old written → lent ≡ old → written ≡ map f lent
    → AreDistinct (entries_of (map f old)) → AreDistinct (entries_of new)
distinct_changed f old lent written new is same mapped d =
    let made : written ≡ map f old = mapped ∙ ap (map f) same in
    distinct_written old written new is (ap length made ∙ length-map old f) (subst (λ w. AreDistinct (entries_of w)) (sym made) d)

pub distinct_removed : (u : Ticket) (old seen new : List PlainTask) (i : ℕ) → new ≡ remove old i → seen ≡ old → without u seen ≡ remove seen i → AreDistinct (entries_of old) → AreDistinct (entries_of new)
distinct_removed u old seen new i is same found d =
    let gone : new ≡ without u old = is ∙ ap (λ w. remove w i) (sym same) ∙ sym found ∙ ap (without u) same in
    subst (λ w. AreDistinct (entries_of w)) (sym gone) (distinct_without u old d)

pub no_more_without : (u : Ticket) (tasks : List PlainTask) → length (without u tasks) ≤ length tasks
no_more_without u [] = omega arith
no_more_without u (x ∷ tasks) =
    elim (same_ticket x.seen.entry.ticket u) as (λ b. length (cond b tasks (x ∷ without u tasks)) ≤ length (x ∷ tasks)) [ true ↦ omega arith | false ↦ omega (arith, no_more_without u tasks) ]
