-- The jobs of tasks that fit: which stay and which are given where what is kept of each task changes.
use Rattle.std.proofs.Common.{◌≡◌, ℕ, Bool, true, false, not, ◌&&◌, cond, List, [], ◌∷◌, ◌++◌, map, Option, Some, None, is_some, refl, sym, ◌∙◌, ap}
use Rattle.std.specs.List.{AllByRecursion}
use Rattle.std.specs.Option.{option_map}
use Rattle.std.proofs.lemmas.List.{map-append}
use Rattle.ring_core.specs.declared.log.Ticket.{Ticket}
use Rattle.unit_model.specs.Tasks.{Entry, same_ticket, task_of, is_blocked}
use Rattle.unit_model.specs.Seen.{Seen, waits, seen_at, entries, others}
use Rattle.unit_model.specs.Jobs.{PlainJob, of_tasks, but_tasks, is_job_of}
use Rattle.task_set.specs.Tasks.{PlainTask, there, parked_of}
use Rattle.task_set.specs.Inner.Tasks.{seen_of, entries_of, moved, given, all_given, without, entering}
use Rattle.unit_model.specs.Unit.{tasks_of_jobs}
use Rattle.logical_unit.specs.Inner.Parts.{AreFit}

-- the task of a job, if there is one
abbrev pub entry_there : Option PlainJob → Option Entry
entry_there m = option_map (λ (j : PlainJob). j.entry) m

-- the job is there as long as the task waits, and is its own
abbrev pub Fits : Option PlainJob → Entry → Bool → Type 0
Fits m e w = entry_there m ≡ cond w (Some e) None

-- the task is among these exactly where it waits, and then waits no more
abbrev pub IsAmong : List Entry → (Seen → Seen) → Seen → Type 0
IsAmong tasks f s = is_some (task_of s.entry.ticket tasks) ≡ (waits s && not (waits (f s)))

nothing : {X : Type 0} {x : X} → Some x ≡ None → ⊥
nothing e = cc

own_job : (j : PlainJob) (e : Entry) → Some j.entry ≡ Some e → j.entry ≡ e
own_job j e h = cc

among_job : (tasks : List Entry) (j : PlainJob) (e : Entry) (b : Bool) → Some j.entry ≡ Some e → is_some (task_of e.ticket tasks) ≡ b → is_job_of tasks j ≡ b
among_job tasks j e b own h = ap (λ (w : Entry). is_some (task_of w.ticket tasks)) (own_job j e own) ∙ h

-- one task more: its job is given where it waits no more
given_on : (tasks : List Entry) (e : Entry) (w w' : Bool) (m : Option PlainJob) (now old : List (Option PlainJob)) → Fits m e w
    → is_some (task_of e.ticket tasks) ≡ (w && not w') → there now ≡ of_tasks tasks (there old) → there (cond w' None m ∷ now) ≡ of_tasks tasks (there (m ∷ old))
given_on tasks e w true None now old fit h more = more
given_on tasks e w false None now old fit h more = more
given_on tasks e false w' (Some j) now old fit h more = absurd (nothing fit)
given_on tasks e true true (Some j) now old fit h more =
    more ∙ sym (ap (λ b. cond b (j ∷ of_tasks tasks (there old)) (of_tasks tasks (there old))) (among_job tasks j e false fit h))
given_on tasks e true false (Some j) now old fit h more =
    ap (λ w. j ∷ w) more ∙ sym (ap (λ b. cond b (j ∷ of_tasks tasks (there old)) (of_tasks tasks (there old))) (among_job tasks j e true fit h))

-- and else it stays
stays_on : (tasks : List Entry) (e : Entry) (w w' : Bool) (m : Option PlainJob) (now old : List (Option PlainJob)) → Fits m e w
    → is_some (task_of e.ticket tasks) ≡ (w && not w') → there now ≡ but_tasks tasks (there old) → there (cond w' m None ∷ now) ≡ but_tasks tasks (there (m ∷ old))
stays_on tasks e w true None now old fit h more = more
stays_on tasks e w false None now old fit h more = more
stays_on tasks e false w' (Some j) now old fit h more = absurd (nothing fit)
stays_on tasks e true true (Some j) now old fit h more =
    ap (λ w. j ∷ w) more ∙ sym (ap (λ b. cond (not b) (j ∷ but_tasks tasks (there old)) (but_tasks tasks (there old))) (among_job tasks j e false fit h))
stays_on tasks e true false (Some j) now old fit h more =
    more ∙ sym (ap (λ b. cond (not b) (j ∷ but_tasks tasks (there old)) (but_tasks tasks (there old))) (among_job tasks j e true fit h))

-- the jobs that are given are those of the tasks that wait no more
pub given_are : (f : Seen → Seen) (among : List Entry) (tasks : List PlainTask) → AreFit tasks → AllByRecursion (IsAmong among f) (seen_of tasks)
    → all_given f tasks ≡ of_tasks among (parked_of tasks)
given_are f among [] fit h = refl
given_are f among (t ∷ tasks) fit h =
    given_on among t.seen.entry (waits t.seen) (waits (f t.seen)) t.parked (map (given f) tasks) (map (λ (x : PlainTask). x.parked) tasks) fit.0 h.0
    (given_are f among tasks fit.1 h.1)

-- the others stay
pub stay_are : (f : Seen → Seen) (among : List Entry) (tasks : List PlainTask) → AreFit tasks → AllByRecursion (IsAmong among f) (seen_of tasks)
    → parked_of (map (moved f) tasks) ≡ but_tasks among (parked_of tasks)
stay_are f among [] fit h = refl
stay_are f among (t ∷ tasks) fit h =
    stays_on among t.seen.entry (waits t.seen) (waits (f t.seen)) t.parked (map (λ (x : PlainTask). x.parked) (map (moved f) tasks)) (map (λ (x : PlainTask). x.parked) tasks) fit.0 h.0
    (stay_are f among tasks fit.1 h.1)

pub entries_seen : (tasks : List PlainTask) → entries_of tasks ≡ entries (seen_of tasks)
entries_seen [] = refl
entries_seen (t ∷ tasks) = ap (λ w. t.seen.entry ∷ w) (entries_seen tasks)

-- what is kept of the tasks but that of a ticket
pub seen_without : (t : Ticket) (tasks : List PlainTask) → seen_of (without t tasks) ≡ others t (seen_of tasks)
seen_without t [] = refl
seen_without t (x ∷ tasks) =
    elim (same_ticket x.seen.entry.ticket t) as (λ b. seen_of (cond b tasks (x ∷ without t tasks)) ≡ cond b (seen_of tasks) (x.seen ∷ others t (seen_of tasks))) [
      | true ↦ refl
      | false ↦ ap (λ w. x.seen ∷ w) (seen_without t tasks)
    ]

pub fit_without : (t : Ticket) (tasks : List PlainTask) → AreFit tasks → AreFit (without t tasks)
fit_without t [] fit = tt
fit_without t (x ∷ tasks) fit =
    elim (same_ticket x.seen.entry.ticket t) as (λ b. AreFit (cond b tasks (x ∷ without t tasks))) [ true ↦ fit.1 | false ↦ (fit.0, fit_without t tasks fit.1) ]

-- who doesn't wait has no job
no_job : (m : Option PlainJob) (e : Entry) (w : Bool) → Fits m e w → w ≡ false → m ≡ None
no_job None e w fit off = refl
no_job (Some j) e true fit off = absurd (let k : true ≡ false = off in cc)
no_job (Some j) e false fit off = absurd (nothing fit)

there_on : (m : Option PlainJob) (now old : List (Option PlainJob)) → there now ≡ there old → there (m ∷ now) ≡ there (m ∷ old)
there_on None now old h = h
there_on (Some j) now old h = ap (λ w. j ∷ w) h

-- a task that doesn't wait leaves the jobs as they are
pub parked_without : (t : Ticket) (s : Seen) (tasks : List PlainTask) → AreFit tasks → seen_at t (seen_of tasks) ≡ Some s → waits s ≡ false
    → parked_of (without t tasks) ≡ parked_of tasks
parked_without t s [] fit k off = refl
parked_without t s (x ∷ tasks) fit k off =
    (elim (same_ticket x.seen.entry.ticket t) as (λ b. cond b (Some x.seen) (seen_at t (seen_of tasks)) ≡ Some s → parked_of (cond b tasks (x ∷ without t tasks)) ≡ parked_of (x ∷ tasks)) [
      | true ↦ λ q.
          let same : x.seen ≡ s = cc in
          sym (ap (λ m. there (m ∷ map (λ (y : PlainTask). y.parked) tasks)) (no_job x.parked x.seen.entry (waits x.seen) fit.0 (ap waits same ∙ off)))
      | false ↦ λ q.
          there_on x.parked (map (λ (y : PlainTask). y.parked) (without t tasks)) (map (λ (y : PlainTask). y.parked) tasks) (parked_without t s tasks fit.1 q off)
    ]) k

there_append : (xs ys : List (Option PlainJob)) → there (xs ++ ys) ≡ there xs ++ there ys
there_append [] ys = refl
there_append (None ∷ xs) ys = there_append xs ys
there_append (Some j ∷ xs) ys = ap (λ w. j ∷ w) (there_append xs ys)

one_there : (b : Bool) (j : PlainJob) → there (cond b (Some j) None ∷ []) ≡ cond b (j ∷ []) []
one_there true j = refl
one_there false j = refl

-- the job of a task that enters is kept where the task is blocked
pub parked_entering : (place : ℕ) (tasks : List PlainTask) (j : PlainJob)
    → parked_of (tasks ++ entering place tasks j ∷ []) ≡ parked_of tasks ++ cond (is_blocked j.entry (entries_of tasks ++ j.entry ∷ [])) (j ∷ []) []
parked_entering place tasks j =
    ap there (map-append (λ (t : PlainTask). t.parked) tasks (entering place tasks j ∷ []))
    ∙ there_append (map (λ (t : PlainTask). t.parked) tasks) (cond (is_blocked j.entry (entries_of tasks ++ j.entry ∷ [])) (Some j) None ∷ [])
    ∙ ap (λ w. parked_of tasks ++ w) (one_there (is_blocked j.entry (entries_of tasks ++ j.entry ∷ [])) j)

-- the tasks that wait
abbrev pub waiting : List Seen → List Entry
waiting [] = []
waiting (s ∷ tasks) = cond (waits s) (s.entry ∷ waiting tasks) (waiting tasks)

jobs_on : (e : Entry) (w : Bool) (m : Option PlainJob) (rest : List (Option PlainJob)) (es : List Entry) → Fits m e w → tasks_of_jobs (there rest) ≡ es
    → tasks_of_jobs (there (m ∷ rest)) ≡ cond w (e ∷ es) es
jobs_on e false None rest es fit h = h
jobs_on e true None rest es fit h = absurd (nothing (sym fit))
jobs_on e false (Some j) rest es fit h = absurd (nothing fit)
jobs_on e true (Some j) rest es fit h = ap (λ w. j.entry ∷ w) h ∙ ap (λ w. w ∷ es) (own_job j e fit)

-- the jobs are those of the tasks that wait
pub jobs_wait : (tasks : List PlainTask) → AreFit tasks → tasks_of_jobs (parked_of tasks) ≡ waiting (seen_of tasks)
jobs_wait [] fit = refl
jobs_wait (t ∷ tasks) fit =
    jobs_on t.seen.entry (waits t.seen) t.parked (map (λ (x : PlainTask). x.parked) tasks) (waiting (seen_of tasks)) fit.0 (jobs_wait tasks fit.1)
