-- The tasks with their jobs, by what is kept of each.
use Rattle.std.proofs.Common.{◌≡◌, ℕ, Bool, true, false, not, ◌||◌, ◌&&◌, cond, List, [], ◌∷◌, ◌++◌, map, length, Option, Some, None, is_some, refl, sym, ◌∙◌, ap}
use Rattle.std.specs.Option.{option_map}
use Rattle.std.proofs.lemmas.List.{length-map, map-append}
use Rattle.ring_core.specs.declared.log.Ticket.{Ticket}
use Rattle.unit_model.specs.declared.rule.Rule.{Rule}
use Rattle.unit_model.specs.declared.reason.Reason.{Reason}
use Rattle.unit_model.specs.Tasks.{Entry, same_ticket, is_blocked, meets}
use Rattle.unit_model.specs.Marks.{first_mark}
use Rattle.unit_model.specs.Seen.{Seen, waits, entries, seen_at, others, finished, with_mark, freed}
use Rattle.unit_model.specs.Jobs.{PlainJob}
use Rattle.task_set.specs.Tasks.{PlainTask}
use Rattle.task_set.specs.Inner.Tasks.{seen_of, entries_of, moved, without, task_at, entering}
use Rattle.logical_unit.specs.Inner.Parts.{AreFit}

pub entries_seen : (tasks : List PlainTask) → entries_of tasks ≡ entries (seen_of tasks)
entries_seen [] = refl
entries_seen (x ∷ tasks) = ap (λ w. x.seen.entry ∷ w) (entries_seen tasks)

pub length_seen : (tasks : List PlainTask) → length (seen_of tasks) ≡ length tasks
length_seen tasks = length-map tasks (λ (x : PlainTask). x.seen)

pub seen_task : (t : Ticket) (tasks : List PlainTask) → seen_at t (seen_of tasks) ≡ option_map (λ (x : PlainTask). x.seen) (task_at t tasks)
seen_task t [] = refl
seen_task t (x ∷ tasks) =
    elim (same_ticket x.seen.entry.ticket t) as (λ b. cond b (Some x.seen) (seen_at t (seen_of tasks)) ≡ option_map (λ (y : PlainTask). y.seen) (cond b (Some x) (task_at t tasks))) [
      | true ↦ refl
      | false ↦ seen_task t tasks
    ]

pub seen_without : (t : Ticket) (tasks : List PlainTask) → seen_of (without t tasks) ≡ others t (seen_of tasks)
seen_without t [] = refl
seen_without t (x ∷ tasks) =
    elim (same_ticket x.seen.entry.ticket t) as (λ b. seen_of (cond b tasks (x ∷ without t tasks)) ≡ cond b (seen_of tasks) (x.seen ∷ others t (seen_of tasks))) [
      | true ↦ refl
      | false ↦ ap (λ w. x.seen ∷ w) (seen_without t tasks)
    ]

pub seen_moved : (f : Seen → Seen) (tasks : List PlainTask) → seen_of (map (moved f) tasks) ≡ map f (seen_of tasks)
seen_moved f [] = refl
seen_moved f (x ∷ tasks) = ap (λ w. f x.seen ∷ w) (seen_moved f tasks)

pub seen_push : (tasks : List PlainTask) (x : PlainTask) → seen_of (tasks ++ x ∷ []) ≡ seen_of tasks ++ x.seen ∷ []
seen_push tasks x = map-append (λ (y : PlainTask). y.seen) tasks (x ∷ [])

-- whoever waits after a step waited before it
abbrev pub WaitsLess : (Seen → Seen) → Type 0
WaitsLess f = (s : Seen) → waits (f s) ≡ true → waits s ≡ true

pub finished_waits : (t : Ticket) (well : Bool) → WaitsLess (finished t well)
finished_waits t well s h = h

by_mark : (on met : Bool) (m : Option Reason) (why : Reason) → (not on && not (is_some (first_mark m met why))) ≡ true → (not on && not (is_some m)) ≡ true
by_mark on met None why h =
    (elim on as (λ b. (not b && not (is_some (first_mark None met why))) ≡ true → (not b && true) ≡ true) [ true ↦ λ k. k | false ↦ λ k. refl ]) h
by_mark on met (Some r) why h = h

pub with_mark_waits : (rule : Rule) (why : Reason) → WaitsLess (with_mark rule why)
with_mark_waits rule why s h = by_mark s.enabled (meets rule s.entry && not s.done) s.mark why h

by_enabled : (on more marked : Bool) → (not (on || more) && not marked) ≡ true → (not on && not marked) ≡ true
by_enabled true more marked h = h
by_enabled false true marked h = absurd (cc)
by_enabled false false marked h = h

pub freed_waits : (tasks : List Entry) → WaitsLess (freed tasks)
freed_waits tasks s h = by_enabled s.enabled (not (is_blocked s.entry tasks)) (is_some s.mark) h

-- the task of a job, if there is one
abbrev pub entry_there : Option PlainJob → Option Entry
entry_there j = option_map (λ (x : PlainJob). x.entry) j

fit_one : (f : Seen → Seen) → WaitsLess f → ((s : Seen) → (f s).entry ≡ s.entry) → (x : PlainTask)
    → entry_there x.parked ≡ cond (waits x.seen) (Some x.seen.entry) None
    → entry_there (moved f x).parked ≡ cond (waits (f x.seen)) (Some (f x.seen).entry) None
fit_one f less own x h =
    (elim (waits (f x.seen)) as (λ b. (waits (f x.seen) ≡ b) → entry_there (cond b x.parked None) ≡ cond b (Some (f x.seen).entry) None) [
      | true ↦ λ k. h ∙ ap (λ b. cond b (Some x.seen.entry) None) (less x.seen k) ∙ ap (λ e. Some e) (sym (own x.seen))
      | false ↦ λ k. refl
    ]) refl

-- each task that moves gives its job where it waits no more
pub fit_moved : (f : Seen → Seen) → WaitsLess f → ((s : Seen) → (f s).entry ≡ s.entry) → (tasks : List PlainTask) → AreFit tasks → AreFit (map (moved f) tasks)
fit_moved f less own [] h = tt
fit_moved f less own (x ∷ tasks) h = (fit_one f less own x h.0, fit_moved f less own tasks h.1)

pub fit_without : (t : Ticket) (tasks : List PlainTask) → AreFit tasks → AreFit (without t tasks)
fit_without t [] h = tt
fit_without t (x ∷ tasks) h = elim (same_ticket x.seen.entry.ticket t) as (λ b. AreFit (cond b tasks (x ∷ without t tasks))) [ true ↦ h.1 | false ↦ (h.0, fit_without t tasks h.1) ]

fit_push : (tasks : List PlainTask) (x : PlainTask) → AreFit tasks → AreFit (x ∷ []) → AreFit (tasks ++ x ∷ [])
fit_push [] x h n = n
fit_push (y ∷ tasks) x h n = (h.0, fit_push tasks x h.1 n)

by_block : (b : Bool) (j : PlainJob) → entry_there (cond b (Some j) None) ≡ cond (not (not b) && true) (Some j.entry) None
by_block true j = refl
by_block false j = refl

pub fit_entering : (place : ℕ) (tasks : List PlainTask) (j : PlainJob) → AreFit tasks → AreFit (tasks ++ entering place tasks j ∷ [])
fit_entering place tasks j h = fit_push tasks (entering place tasks j) h (by_block (is_blocked j.entry (entries_of tasks ++ j.entry ∷ [])) j, tt)
