-- How many steps the tasks alive may still take, after each step.
use Rattle.std.proofs.Common.{◌≡◌, ℕ, ◌==◌, ◌+◌, ◌*◌, ◌<◌, ◌≤◌, Bool, true, false, ◌||◌, cond, List, [], ◌∷◌, ◌++◌, map, length, Some, None, is_some, refl, sym, ◌∙◌, ap, arith}
use Rattle.ring_core.specs.declared.log.Ticket.{Ticket}
use Rattle.unit_attention.specs.declared.code.Code.{Code}
use Rattle.command_model.specs.PlainReply.{PlainReply}
use Rattle.unit_model.specs.declared.rule.Rule.{Rule}
use Rattle.unit_model.specs.declared.rule.Rule.TheVariants as rules
use Rattle.unit_model.specs.declared.reason.Reason.{Reason}
use Rattle.unit_model.specs.declared.reason.Reason.TheVariants as reason
use Rattle.unit_model.specs.Tasks.{Entry, same_ticket, task_of}
use Rattle.command_model.specs.Statuses.{good}
use Rattle.unit_model.specs.Steps.{Step, alive, is_alive, done}
use Rattle.unit_model.specs.Seen.{Seen, seen, tasks_of, entries, seen_at, others, joined, finished, with_mark, freed, owed}
use Rattle.unit_model.specs.Contents.{Opening}
use Rattle.unit_model.specs.Lawful.{IsReady, IsLawful}
use Rattle.unit_model.proofs.Tickets.{same-true, eq-same}
use Rattle.unit_model.proofs.Few.{alive_few}
use Rattle.unit_model.proofs.Leaving.{task_ticket}
use Rattle.unit_model.proofs.Kept.{length_tasks, seen_there}
use Rattle.unit_model.proofs.Keeping.{tasks_enter, tasks_full, tasks_resize, tasks_commit, tasks_busy, tasks_abort, tasks_reset, tasks_leave}

nothing : {X : Type 0} {x : X} → None ≡ Some x → ⊥
nothing e = cc

abbrev left : Bool → ℕ
left ran = cond ran 1 2

left_some : (b : Bool) → 1 ≤ left b
left_some true = omega arith
left_some false = omega arith

left_few : (b : Bool) → left b ≤ 2
left_few true = omega arith
left_few false = omega arith

left_less : (a b : Bool) → left (a || b) ≤ left b
left_less true true = omega arith
left_less true false = omega arith
left_less false b = omega arith

owed_append : (xs ys : List Seen) → owed (xs ++ ys) ≡ owed xs + owed ys
owed_append [] ys = omega arith
owed_append (x ∷ xs) ys = let h = owed_append xs ys in omega (arith, h)

-- a task that enters may take two
pub owed_joined : (place : ℕ) (es : List Entry) (e : Entry) (tasks : List Seen) → owed (tasks ++ joined place es e ∷ []) ≡ owed tasks + 2
owed_joined place es e tasks = let h = owed_append tasks (joined place es e ∷ []) in omega (arith, h)

finished_less : (t : Ticket) (well : Bool) (tasks : List Seen) → owed (map (finished t well) tasks) ≤ owed tasks
finished_less t well [] = omega arith
finished_less t well (s ∷ tasks) =
    let h = finished_less t well tasks in
    let here = left_less (same_ticket t s.entry.ticket) s.done in
    omega (arith, h, here)

-- a Commit or a Busy is one of them
pub owed_finished : (t : Ticket) (well : Bool) (s : Seen) (tasks : List Seen) → seen_at t tasks ≡ Some s → s.done ≡ false
    → owed (map (finished t well) tasks) + 1 ≤ owed tasks
owed_finished t well s [] at undone = absurd (nothing at)
owed_finished t well s (x ∷ tasks) at undone =
    (elim (same_ticket x.entry.ticket t) as (λ b. (same_ticket x.entry.ticket t ≡ b) → cond b (Some x) (seen_at t tasks) ≡ Some s
    → (left (same_ticket t x.entry.ticket || x.done) + owed (map (finished t well) tasks)) + 1 ≤ left x.done + owed tasks) [
      | true ↦ λ k q.
          let same : x ≡ s = cc in
          let now = ap (λ b. left (b || x.done)) (eq-same t x.entry.ticket (sym (same-true x.entry.ticket t k))) in
          let was = ap left (ap (λ (w : Seen). w.done) same ∙ undone) in
          let rest = finished_less t well tasks in
          omega (arith, now, was, rest)
      | false ↦ λ k q.
          let here = left_less (same_ticket t x.entry.ticket) x.done in
          let rest = owed_finished t well s tasks q undone in
          omega (arith, here, rest)
    ]) refl at

-- marks change none
pub owed_with_mark : (rule : Rule) (why : Reason) (tasks : List Seen) → owed (map (with_mark rule why) tasks) ≡ owed tasks
owed_with_mark rule why [] = refl
owed_with_mark rule why (s ∷ tasks) = ap (λ n. left s.done + n) (owed_with_mark rule why tasks)

pub owed_freed : (es : List Entry) (tasks : List Seen) → owed (map (freed es) tasks) ≡ owed tasks
owed_freed es [] = refl
owed_freed es (s ∷ tasks) = ap (λ n. left s.done + n) (owed_freed es tasks)

pub owed_others : (t : Ticket) (s : Seen) (tasks : List Seen) → seen_at t tasks ≡ Some s → owed tasks ≡ cond s.done 1 2 + owed (others t tasks)
owed_others t s [] at = absurd (nothing at)
owed_others t s (x ∷ tasks) at =
    (elim (same_ticket x.entry.ticket t) as (λ b. cond b (Some x) (seen_at t tasks) ≡ Some s → left x.done + owed tasks ≡ left s.done + owed (cond b tasks (x ∷ others t tasks))) [
      | true ↦ λ q. let same : x ≡ s = cc in ap (λ (w : Seen). left w.done + owed tasks) same
      | false ↦ λ q. let rest = owed_others t s tasks q in omega (arith, rest)
    ]) at

-- a Leave is one of them
pub owed_leave : (t : Ticket) (s : Seen) (es : List Entry) (tasks : List Seen) → seen_at t tasks ≡ Some s → owed (map (freed es) (others t tasks)) + 1 ≤ owed tasks
owed_leave t s es tasks at =
    let same = owed_freed es (others t tasks) in
    let took = owed_others t s tasks at in
    let one = left_some s.done in
    omega (arith, same, took, one)

-- where a task is kept it may take one
pub owed_some : (t : Ticket) (s : Seen) (tasks : List Seen) → seen_at t tasks ≡ Some s → 0 < owed tasks
owed_some t s tasks at = let took = owed_others t s tasks at in let one = left_some s.done in omega (arith, took, one)

pub owed_two : (tasks : List Seen) → owed tasks ≤ 2 * length tasks
owed_two [] = omega arith
owed_two (s ∷ tasks) = let rest = owed_two tasks in let here = left_few s.done in omega (arith, rest, here)

pub owed_few : (tasks : List Seen) → length tasks ≤ 64 → owed tasks ≤ 128
owed_few tasks few = let two = owed_two tasks in omega (arith, two, few)

ready_owed : (t : Ticket) (well : Bool) (e : Entry) (past : List Step) → IsReady t e past
    → owed (map (finished t well) (tasks_of past)) + 1 ≤ owed (tasks_of past)
ready_owed t well e past ready =
    owed_finished t well (seen past e) (tasks_of past) (seen_there t past e ready.is_there)
    (ap (λ n. done n past) (sym (task_ticket t (alive past) e ready.is_there)) ∙ ready.is_undone)

pub commit_owed : (o : Opening) (t : Ticket) (r : PlainReply) (past : List Step) → IsLawful o (Step.Commit t r ∷ past) → owed (tasks_of (Step.Commit t r ∷ past)) + 1 ≤ owed (tasks_of past)
commit_owed o t r past l = let same = ap owed (tasks_commit t r past) in let fewer = ready_owed t (r.status == good) l.1.0 past l.1.1 in omega (arith, same, fewer)

pub busy_owed : (o : Opening) (t : Ticket) (past : List Step) → IsLawful o (Step.Busy t ∷ past) → owed (tasks_of (Step.Busy t ∷ past)) + 1 ≤ owed (tasks_of past)
busy_owed o t past l = let same = ap owed (tasks_busy t past) in let fewer = ready_owed t false l.1.0 past l.1.1 in omega (arith, same, fewer)

pub leave_owed : (o : Opening) (t : Ticket) (past : List Step) → IsLawful o (Step.Leave t ∷ past) → owed (tasks_of (Step.Leave t ∷ past)) + 1 ≤ owed (tasks_of past)
leave_owed o t past l =
    let same = ap owed (tasks_leave t past) in
    let fewer = owed_leave t (seen past l.1.0) (entries (others t (tasks_of past))) (tasks_of past) (seen_there t past l.1.0 l.1.1) in
    omega (arith, same, fewer)

pub enter_owed : (o : Opening) (e : Entry) (past : List Step) → IsLawful o (Step.Enter e ∷ past) → owed (tasks_of (Step.Enter e ∷ past)) ≡ owed (tasks_of past) + 2
enter_owed o e past l = ap owed (tasks_enter o e past l) ∙ owed_joined (length past) (alive past ++ e ∷ []) e (tasks_of past)

pub abort_owed : (o : Opening) (rule : Rule) (past : List Step) → IsLawful o past → owed (tasks_of (Step.Abort rule ∷ past)) ≡ owed (tasks_of past)
abort_owed o rule past l = ap owed (tasks_abort o rule past l) ∙ owed_with_mark rule reason.Aborted (tasks_of past)

pub reset_owed : (o : Opening) (c : Code) (past : List Step) → IsLawful o past → owed (tasks_of (Step.Reset c ∷ past)) ≡ owed (tasks_of past)
reset_owed o c past l = ap owed (tasks_reset o c past l) ∙ owed_with_mark rules.All reason.Reset (tasks_of past)

pub full_owed : (t : Ticket) (past : List Step) → owed (tasks_of (Step.Full t ∷ past)) ≡ owed (tasks_of past)
full_owed t past = ap owed (tasks_full t past)

pub resize_owed : (blocks : ℕ) (past : List Step) → owed (tasks_of (Step.Resize blocks ∷ past)) ≡ owed (tasks_of past)
resize_owed blocks past = ap owed (tasks_resize blocks past)

pub alive_owed : (o : Opening) (h : List Step) → IsLawful o h → owed (tasks_of h) ≤ 128
alive_owed o h l = let few = alive_few o h l in let same = length_tasks h in owed_few (tasks_of h) (omega (arith, few, same))

pub found_owed : (t : Ticket) (h : List Step) → is_alive t h ≡ true → 0 < owed (tasks_of h)
found_owed t h found =
    (elim (task_of t (alive h)) as (λ x. (task_of t (alive h) ≡ x) → is_some x ≡ true → 0 < owed (tasks_of h)) [
      | None ↦ λ k q. absurd (cc)
      | Some e ↦ λ k q. owed_some t (seen h e) (tasks_of h) (seen_there t h e k)
    ]) refl found
