-- What stands before a task in a set whose tickets are distinct.
use Rattle.std.proofs.Common.{◌≡◌, ℕ, ◌+◌, ◌<◌, Bool, true, false, ◌||◌, cond, List, [], ◌∷◌, length, get_or, take, Some, None, zero, suc, nat_lt, refl, sym, ◌∙◌, ap, arith}
use Rattle.std.proofs.lemmas.Bool.Decides.{nat_tests}
use Rattle.std.proofs.lemmas.List.{map_more}
use Rattle.std.proofs.lemmas.List.Folds.{list_any-append}
use Rattle.request_intake.specs.declared.attribute.TaskAttribute.{TaskAttribute}
use Rattle.request_intake.specs.declared.attribute.TaskAttribute.TheVariants.{Simple, Ordered, HeadOfQueue}
use Rattle.ring_core.specs.declared.log.Ticket.{Ticket}
use Rattle.unit_model.specs.Tasks.{Entry, same_ticket, task_of, older, AreDistinct, any_head_of_queue, any_ordered, any_task, is_ordered, blocks, is_blocked}
use Rattle.unit_model.proofs.Tickets.{itself, apart}
use Rattle.task_set.specs.Tasks.{PlainTask}
use Rattle.task_set.specs.Inner.Tasks.{entries_of, blocked_where}

clash : true ≡ false → ⊥
clash e = cc

absent_found : (e : Entry) → Some e ≡ None → ⊥
absent_found e h = cc

-- a task of those among which a ticket isn't found has another ticket
other : (t : Ticket) (tasks : List PlainTask) (i : ℕ) (d : PlainTask) → i < length tasks → task_of t (entries_of tasks) ≡ None
    → same_ticket (get_or tasks i d).seen.entry.ticket t ≡ false
other t [] i d h none = absurd (omega arith)
other t (x ∷ tasks) zero d h none =
    (elim (same_ticket x.seen.entry.ticket t) as (λ b. cond b (Some x.seen.entry) (task_of t (entries_of tasks)) ≡ None → b ≡ false) [
      | true ↦ λ k. absurd (absent_found x.seen.entry k)
      | false ↦ λ k. refl
    ]) none
other t (x ∷ tasks) (suc i) d h none =
    (elim (same_ticket x.seen.entry.ticket t) as (λ b. cond b (Some x.seen.entry) (task_of t (entries_of tasks)) ≡ None → same_ticket (get_or tasks i d).seen.entry.ticket t ≡ false) [
      | true ↦ λ k. absurd (absent_found x.seen.entry k)
      | false ↦ λ k. other t tasks i d (omega arith) k
    ]) none

older_at : (tasks : List PlainTask) (i : ℕ) (d : PlainTask) → i < length tasks → AreDistinct (entries_of tasks)
    → older (get_or tasks i d).seen.entry.ticket (entries_of tasks) ≡ entries_of (take i tasks)
older_at [] i d h distinct = absurd (omega arith)
older_at (x ∷ tasks) zero d h distinct = ap (λ b. cond b [] (x.seen.entry ∷ older x.seen.entry.ticket (entries_of tasks))) (itself x.seen.entry.ticket)
older_at (x ∷ tasks) (suc i) d h distinct =
    let t = (get_or tasks i d).seen.entry.ticket in
    ap (λ b. cond b [] (x.seen.entry ∷ older t (entries_of tasks))) (apart t x.seen.entry.ticket (other x.seen.entry.ticket tasks i d (omega arith) distinct.0))
    ∙ ap (λ w. x.seen.entry ∷ w) (older_at tasks i d (omega arith) distinct.1)

any_before_it : (tasks : List PlainTask) (i : ℕ) → i < length tasks → any_task (entries_of (take i tasks)) ≡ nat_lt 0 i
any_before_it [] i h = absurd (omega arith)
any_before_it (x ∷ tasks) zero h = refl
any_before_it (x ∷ tasks) (suc i) h = grind (arith, nat_tests)

by_attribute : (a : TaskAttribute) (before tasks : List Entry) → blocked_where a (any_head_of_queue tasks) (any_ordered before) (any_task before) ≡ blocks a before tasks
by_attribute Simple before tasks = refl
by_attribute Ordered before tasks = refl
by_attribute HeadOfQueue before tasks = refl

-- what a walk knows of the tasks before one says whether it is blocked
pub blocked_at : (tasks : List PlainTask) (i : ℕ) (d : PlainTask) (head_of_queue ordered blocked : Bool) → i < length tasks → AreDistinct (entries_of tasks)
    → head_of_queue ≡ any_head_of_queue (entries_of tasks) → ordered ≡ any_ordered (entries_of (take i tasks))
    → blocked ≡ blocked_where (get_or tasks i d).seen.entry.attribute head_of_queue ordered (nat_lt 0 i)
    → blocked ≡ is_blocked (get_or tasks i d).seen.entry (entries_of tasks)
blocked_at tasks i d head_of_queue ordered blocked h distinct head some is =
    let e = (get_or tasks i d).seen.entry in
    is
    ∙ ap (λ b. blocked_where e.attribute b ordered (nat_lt 0 i)) head
    ∙ ap (λ b. blocked_where e.attribute (any_head_of_queue (entries_of tasks)) b (nat_lt 0 i)) some
    ∙ ap (λ b. blocked_where e.attribute (any_head_of_queue (entries_of tasks)) (any_ordered (entries_of (take i tasks))) b) (sym (any_before_it tasks i h))
    ∙ by_attribute e.attribute (entries_of (take i tasks)) (entries_of tasks)
    ∙ ap (λ w. blocks e.attribute w (entries_of tasks)) (sym (older_at tasks i d h distinct))

or_nothing : (b : Bool) → (b || false) ≡ b
or_nothing true = refl
or_nothing false = refl

-- an ORDERED task stood before the next one
pub ordered_more : (tasks : List PlainTask) (i : ℕ) (d : PlainTask) (before : Bool) → i < length tasks → before ≡ any_ordered (entries_of (take i tasks))
    → (before || is_ordered (get_or tasks i d).seen.entry.attribute) ≡ any_ordered (entries_of (take (i + 1) tasks))
ordered_more tasks i d before h is =
    let e = (get_or tasks i d).seen.entry in
    ap (λ b. b || is_ordered e.attribute) is
    ∙ ap (λ b. any_ordered (entries_of (take i tasks)) || b) (sym (or_nothing (is_ordered e.attribute)))
    ∙ sym (list_any-append (λ (f : Entry). is_ordered f.attribute) (entries_of (take i tasks)) (e ∷ []))
    ∙ sym (ap any_ordered (map_more (λ (t : PlainTask). t.seen.entry) tasks i d h))
