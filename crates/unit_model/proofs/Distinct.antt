-- The tickets of the tasks alive are distinct.
use Rattle.std.proofs.Common.{◌≡◌, true, false, cond, List, [], ◌∷◌, ◌++◌, Some, None, refl, sym, ◌∙◌, ap, subst}
use Rattle.ring_core.specs.declared.log.Ticket.{Ticket}
use Rattle.unit_model.specs.Tasks.{Entry, same_ticket, task_of, without, AreDistinct}
use Rattle.unit_model.specs.Steps.{Step, alive}
use Rattle.unit_model.specs.Contents.{Opening}
use Rattle.unit_model.specs.Lawful.{IsLawful}
use Rattle.unit_model.proofs.Tickets.{same-true, apart}
use Rattle.unit_model.proofs.Fresh.{fresh, none_of, above_fresh}

pub task_push_other : (t : Ticket) (f : Entry) (es : List Entry) → same_ticket f.ticket t ≡ false → task_of t (es ++ f ∷ []) ≡ task_of t es
task_push_other t f [] h = ap (λ b. cond b (Some f) None) h
task_push_other t f (x ∷ es) h = ap (λ w. cond (same_ticket x.ticket t) (Some x) w) (task_push_other t f es h)

pub task_without_other : (t u : Ticket) (es : List Entry) → same_ticket u t ≡ false → task_of t (without u es) ≡ task_of t es
task_without_other t u [] h = refl
task_without_other t u (x ∷ es) h =
    (elim (same_ticket x.ticket u) as (λ b. (same_ticket x.ticket u ≡ b) → task_of t (cond b es (x ∷ without u es)) ≡ cond (same_ticket x.ticket t) (Some x) (task_of t es)) [
      | true ↦ λ k. sym (ap (λ b. cond b (Some x) (task_of t es)) (ap (λ n. same_ticket n t) (same-true x.ticket u k) ∙ h))
      | false ↦ λ k. ap (λ w. cond (same_ticket x.ticket t) (Some x) w) (task_without_other t u es h)
    ]) refl

none_without : (t u : Ticket) (es : List Entry) → task_of t es ≡ None → task_of t (without u es) ≡ None
none_without t u [] h = refl
none_without t u (x ∷ es) h =
    (elim (same_ticket x.ticket t) as (λ b. cond b (Some x) (task_of t es) ≡ None → (same_ticket x.ticket t ≡ b) → task_of t (cond (same_ticket x.ticket u) es (x ∷ without u es)) ≡ None) [
      | true ↦ λ k q. cc
      | false ↦ λ k q.
          elim (same_ticket x.ticket u) as (λ c. task_of t (cond c es (x ∷ without u es)) ≡ None) [
            | true ↦ k
            | false ↦ ap (λ b. cond b (Some x) (task_of t (without u es))) q ∙ none_without t u es k
          ]
    ]) h refl

distinct_without : (u : Ticket) (es : List Entry) → AreDistinct es → AreDistinct (without u es)
distinct_without u [] d = tt
distinct_without u (x ∷ es) d =
    elim (same_ticket x.ticket u) as (λ b. AreDistinct (cond b es (x ∷ without u es))) [ true ↦ d.1 | false ↦ (none_without x.ticket u es d.0, distinct_without u es d.1) ]

distinct_push : (f : Entry) (es : List Entry) → task_of f.ticket es ≡ None → AreDistinct es → AreDistinct (es ++ f ∷ [])
distinct_push f [] h d = (refl, tt)
distinct_push f (x ∷ es) h d =
    (elim (same_ticket x.ticket f.ticket) as (λ b. (same_ticket x.ticket f.ticket ≡ b) → cond b (Some x) (task_of f.ticket es) ≡ None → AreDistinct (x ∷ (es ++ f ∷ []))) [
      | true ↦ λ q k. cc
      | false ↦ λ q k. (task_push_other x.ticket f es (apart x.ticket f.ticket q) ∙ d.0, distinct_push f es k d.1)
    ]) refl h

pub alive_distinct : (o : Opening) (h : List Step) → IsLawful o h → AreDistinct (alive h)
alive_distinct o [] l = tt
alive_distinct o (Step.Enter e ∷ past) l = distinct_push e (alive past) (none_of e.ticket (alive past) (fresh e.ticket past (above_fresh o e.ticket past l.0 l.1.1))) (alive_distinct o past l.0)
alive_distinct o (Step.Full t ∷ past) l = alive_distinct o past l.0
alive_distinct o (Step.Resize blocks ∷ past) l = alive_distinct o past l.0
alive_distinct o (Step.Commit t r ∷ past) l = alive_distinct o past l.0
alive_distinct o (Step.Busy t ∷ past) l = alive_distinct o past l.0
alive_distinct o (Step.Abort rule ∷ past) l = alive_distinct o past l.0
alive_distinct o (Step.Reset c ∷ past) l = alive_distinct o past l.0
alive_distinct o (Step.Leave t ∷ past) l = distinct_without t (alive past) (alive_distinct o past l.0)

pub without_none : (u : Ticket) (es : List Entry) → AreDistinct es → task_of u (without u es) ≡ None
without_none u [] d = refl
without_none u (x ∷ es) d =
    (elim (same_ticket x.ticket u) as (λ b. (same_ticket x.ticket u ≡ b) → task_of u (cond b es (x ∷ without u es)) ≡ None) [
      | true ↦ λ k. subst (λ n. task_of n es ≡ None) (same-true x.ticket u k) d.0
      | false ↦ λ k. ap (λ b. cond b (Some x) (task_of u (without u es))) k ∙ without_none u es d.1
    ]) refl
