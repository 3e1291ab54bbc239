-- Which jobs a unit hands out at a step, and which it keeps.
use Rattle.std.proofs.Common.{◌≡◌, ◌==◌, ℕ, Bool, true, false, not, ◌&&◌, cond, List, [], ◌∷◌, ◌++◌, filter, map, Option, Some, None, is_some, refl, sym, ◌∙◌, ap, subst}
use Rattle.std.specs.List.{AllByRecursion}
use Rattle.std.proofs.lemmas.List.{append-nil}
use Rattle.ring_core.specs.declared.log.Ticket.{Ticket}
use Rattle.block_store.specs.Storage.{Ledger}
use Rattle.unit_attention.specs.declared.code.Code.{Code}
use Rattle.block_store.specs.Blocks.{Blocks}
use Rattle.command_model.specs.PlainReply.{PlainReply}
use Rattle.unit_model.specs.declared.rule.Rule.{Rule}
use Rattle.unit_model.specs.declared.rule.Rule.TheVariants as rules
use Rattle.unit_model.specs.declared.reason.Reason.TheVariants as reason
use Rattle.unit_model.specs.Tasks.{Entry, same_ticket, task_of, is_blocked, AreDistinct}
use Rattle.unit_model.specs.Steps.{Step, alive}
use Rattle.unit_model.specs.Marks.{marked}
use Rattle.unit_model.specs.Enabling.{enabled, is_parked, newly_enabled, newly_marked}
use Rattle.unit_model.specs.Released.{released}
use Rattle.command_model.specs.Statuses.{good}
use Rattle.unit_model.specs.Seen.{Seen, seen, seen_at, tasks_of, entries, waits, finished, with_mark, freed, others}
use Rattle.unit_model.specs.Contents.{Opening}
use Rattle.unit_model.specs.Lawful.{IsLawful, May}
use Rattle.unit_model.proofs.Clearing.{Each}
use Rattle.unit_model.proofs.Distinct.{alive_distinct}
use Rattle.unit_model.proofs.Filtered.{filter_found, filter_same, filter_twice, without_filter}
use Rattle.unit_model.proofs.Kept.{entries_tasks, others_map, others_tasks, seen_there}
use Rattle.unit_model.proofs.Leaving.{leaves_handed}
use Rattle.unit_model.proofs.Releasing.{released_by_leave, released_by_abort, released_by_reset}
use Rattle.unit_model.specs.Jobs.{PlainJob, of_tasks, but_tasks}
use Rattle.task_set.specs.Tasks.{PlainTask, parked_of}
use Rattle.task_set.specs.Inner.Tasks.{seen_of, entries_of, moved, all_given, without, entering, run_at_once}
use Rattle.unit_model.specs.Unit.{tasks_of_jobs, IsUnit}
use Rattle.logical_unit.specs.Inner.Parts.{AreFit, AreKept}
use Rattle.logical_unit.proofs.Fitting.{IsAmong, given_are, stay_are, entries_seen, seen_without, fit_without, parked_without, parked_entering, waiting, jobs_wait}

of_all : {X : Type 0} (P : X → Type 0) (xs : List X) → ((x : X) → P x) → AllByRecursion P xs
of_all P [] h = tt
of_all P (x ∷ xs) h = (h x, of_all P xs h)

-- from the tasks as they entered to what is kept of them
all_seen : (f : Seen → Seen) (among : List Entry) (past : List Step) (es : List Entry)
    → Each (λ e. is_some (task_of e.ticket among) ≡ (waits (seen past e) && not (waits (f (seen past e))))) es → AllByRecursion (IsAmong among f) (map (seen past) es)
all_seen f among past [] h = tt
all_seen f among past (e ∷ es) h = (h.0, all_seen f among past es h.1)

without_out : (b : Bool) → false ≡ (b && not b)
without_out true = refl
without_out false = refl

-- the tasks of a task set are those that are alive
alive_entries : (past : List Step) (tasks : List PlainTask) → seen_of tasks ≡ tasks_of past → entries_of tasks ≡ alive past
alive_entries past tasks set = entries_seen tasks ∙ ap entries set ∙ entries_tasks past

-- of a step that hands out nothing
pub nothing_given : (jobs : List PlainJob) → of_tasks [] jobs ≡ []
nothing_given [] = refl
nothing_given (j ∷ jobs) = nothing_given jobs

pub nothing_taken : (jobs : List PlainJob) → but_tasks [] jobs ≡ jobs
nothing_taken [] = refl
nothing_taken (j ∷ jobs) = ap (λ w. j ∷ w) (nothing_taken jobs)

-- what is kept of the tasks but the one that leaves
rest_seen : (t : Ticket) (past : List Step) (tasks : List PlainTask) → seen_of tasks ≡ tasks_of past
    → seen_of (without t tasks) ≡ map (seen past) (alive (Step.Leave t ∷ past))
rest_seen t past tasks set = seen_without t tasks ∙ ap (others t) set ∙ others_map t past (alive past)

rest_entries : (t : Ticket) (past : List Step) (tasks : List PlainTask) → seen_of tasks ≡ tasks_of past
    → entries_of (without t tasks) ≡ alive (Step.Leave t ∷ past)
rest_entries t past tasks set = entries_seen (without t tasks) ∙ ap entries (seen_without t tasks ∙ ap (others t) set) ∙ others_tasks t past

rest_among : (o : Opening) (t : Ticket) (past : List Step) (tasks : List PlainTask) → seen_of tasks ≡ tasks_of past → IsLawful o (Step.Leave t ∷ past)
    → AllByRecursion (IsAmong (newly_enabled t past) (freed (entries_of (without t tasks)))) (seen_of (without t tasks))
rest_among o t past tasks set l =
    let gone = newly_enabled t past in
    subst (λ w. AllByRecursion (IsAmong gone (freed w)) (seen_of (without t tasks))) (sym (rest_entries t past tasks set))
    (subst (λ w. AllByRecursion (IsAmong gone (freed (alive (Step.Leave t ∷ past)))) w) (sym (rest_seen t past tasks set))
    (all_seen (freed (alive (Step.Leave t ∷ past))) gone past (alive (Step.Leave t ∷ past)) (released_by_leave o t past l)))

-- the task that leaves has no job
rest_parked : (o : Opening) (t : Ticket) (past : List Step) (tasks : List PlainTask) → seen_of tasks ≡ tasks_of past → AreFit tasks → IsLawful o (Step.Leave t ∷ past)
    → parked_of (without t tasks) ≡ parked_of tasks
rest_parked o t past tasks set fit l =
    let e : Entry = l.1.0 in
    parked_without t (seen past e) tasks fit
    (subst (λ w. seen_at t w ≡ Some (seen past e)) (sym set) (seen_there t past e l.1.1))
    (leaves_handed o past t e l.0 l.1.1 l.1.2)

-- a Leave hands out the jobs that it releases
pub given_leave : (o : Opening) (past : List Step) (blocks : Blocks) (pending : List Code) (tasks : List PlainTask) (last_tickets : List (Option ℕ)) (room : ℕ) (t : Ticket)
    → AreKept o past blocks pending tasks last_tickets room → May o (Step.Leave t) past
    → all_given (freed (entries_of (without t tasks))) (without t tasks) ≡ of_tasks (released (Step.Leave t) past) (parked_of tasks)
given_leave o past blocks pending tasks last_tickets room t k may =
    given_are (freed (entries_of (without t tasks))) (newly_enabled t past) (without t tasks) (fit_without t tasks k.fit) (rest_among o t past tasks k.set (k.lawful, may))
    ∙ ap (of_tasks (newly_enabled t past)) (rest_parked o t past tasks k.set k.fit (k.lawful, may))

pub parked_leave : (o : Opening) (past : List Step) (blocks : Blocks) (pending : List Code) (tasks : List PlainTask) (last_tickets : List (Option ℕ)) (room : ℕ) (t : Ticket)
    → AreKept o past blocks pending tasks last_tickets room → May o (Step.Leave t) past
    → parked_of (map (moved (freed (entries_of (without t tasks)))) (without t tasks)) ≡ but_tasks (released (Step.Leave t) past) (parked_of tasks)
parked_leave o past blocks pending tasks last_tickets room t k may =
    stay_are (freed (entries_of (without t tasks))) (newly_enabled t past) (without t tasks) (fit_without t tasks k.fit) (rest_among o t past tasks k.set (k.lawful, may))
    ∙ ap (but_tasks (newly_enabled t past)) (rest_parked o t past tasks k.set k.fit (k.lawful, may))

abort_among : (o : Opening) (rule : Rule) (past : List Step) (tasks : List PlainTask) → seen_of tasks ≡ tasks_of past → IsLawful o past
    → AllByRecursion (IsAmong (newly_marked (Step.Abort rule) past) (with_mark rule reason.Aborted)) (seen_of tasks)
abort_among o rule past tasks set l =
    subst (λ w. AllByRecursion (IsAmong (newly_marked (Step.Abort rule) past) (with_mark rule reason.Aborted)) w) (sym set)
    (all_seen (with_mark rule reason.Aborted) (newly_marked (Step.Abort rule) past) past (alive past) (released_by_abort o rule past l))

-- an Abort hands out the jobs that it releases
pub given_abort : (o : Opening) (past : List Step) (blocks : Blocks) (pending : List Code) (tasks : List PlainTask) (last_tickets : List (Option ℕ)) (room : ℕ) (rule : Rule)
    → AreKept o past blocks pending tasks last_tickets room
    → all_given (with_mark rule reason.Aborted) tasks ≡ of_tasks (released (Step.Abort rule) past) (parked_of tasks)
given_abort o past blocks pending tasks last_tickets room rule k =
    given_are (with_mark rule reason.Aborted) (newly_marked (Step.Abort rule) past) tasks k.fit (abort_among o rule past tasks k.set k.lawful)

pub parked_abort : (o : Opening) (past : List Step) (blocks : Blocks) (pending : List Code) (tasks : List PlainTask) (last_tickets : List (Option ℕ)) (room : ℕ) (rule : Rule)
    → AreKept o past blocks pending tasks last_tickets room
    → parked_of (map (moved (with_mark rule reason.Aborted)) tasks) ≡ but_tasks (released (Step.Abort rule) past) (parked_of tasks)
parked_abort o past blocks pending tasks last_tickets room rule k =
    stay_are (with_mark rule reason.Aborted) (newly_marked (Step.Abort rule) past) tasks k.fit (abort_among o rule past tasks k.set k.lawful)

reset_among : (o : Opening) (c : Code) (past : List Step) (tasks : List PlainTask) → seen_of tasks ≡ tasks_of past → IsLawful o past
    → AllByRecursion (IsAmong (newly_marked (Step.Reset c) past) (with_mark rules.All reason.Reset)) (seen_of tasks)
reset_among o c past tasks set l =
    subst (λ w. AllByRecursion (IsAmong (newly_marked (Step.Reset c) past) (with_mark rules.All reason.Reset)) w) (sym set)
    (all_seen (with_mark rules.All reason.Reset) (newly_marked (Step.Reset c) past) past (alive past) (released_by_reset o c past l))

-- a Reset hands out the jobs that it releases
pub given_reset : (o : Opening) (past : List Step) (blocks : Blocks) (pending : List Code) (tasks : List PlainTask) (last_tickets : List (Option ℕ)) (room : ℕ) (c : Code)
    → AreKept o past blocks pending tasks last_tickets room
    → all_given (with_mark rules.All reason.Reset) tasks ≡ of_tasks (released (Step.Reset c) past) (parked_of tasks)
given_reset o past blocks pending tasks last_tickets room c k =
    given_are (with_mark rules.All reason.Reset) (newly_marked (Step.Reset c) past) tasks k.fit (reset_among o c past tasks k.set k.lawful)

pub parked_reset : (o : Opening) (past : List Step) (blocks : Blocks) (pending : List Code) (tasks : List PlainTask) (last_tickets : List (Option ℕ)) (room : ℕ) (c : Code)
    → AreKept o past blocks pending tasks last_tickets room
    → parked_of (map (moved (with_mark rules.All reason.Reset)) tasks) ≡ but_tasks (released (Step.Reset c) past) (parked_of tasks)
parked_reset o past blocks pending tasks last_tickets room c k =
    stay_are (with_mark rules.All reason.Reset) (newly_marked (Step.Reset c) past) tasks k.fit (reset_among o c past tasks k.set k.lawful)

-- whoever ends keeps all jobs where they are
finish_keeps : (t : Ticket) (well : Bool) (tasks : List PlainTask) → AreFit tasks
    → parked_of (map (moved (finished t well)) tasks) ≡ but_tasks [] (parked_of tasks)
finish_keeps t well tasks fit = stay_are (finished t well) [] tasks fit (of_all (IsAmong [] (finished t well)) (seen_of tasks) (λ s. without_out (waits s)))

pub parked_commit : (o : Opening) (past : List Step) (blocks : Blocks) (pending : List Code) (tasks : List PlainTask) (last_tickets : List (Option ℕ)) (room : ℕ) (t : Ticket) (r : PlainReply)
    → AreKept o past blocks pending tasks last_tickets room
    → parked_of (map (moved (finished t (r.status == good))) tasks) ≡ but_tasks (released (Step.Commit t r) past) (parked_of tasks)
parked_commit o past blocks pending tasks last_tickets room t r k = finish_keeps t (r.status == good) tasks k.fit

pub parked_busy : (o : Opening) (past : List Step) (blocks : Blocks) (pending : List Code) (tasks : List PlainTask) (last_tickets : List (Option ℕ)) (room : ℕ) (t : Ticket)
    → AreKept o past blocks pending tasks last_tickets room
    → parked_of (map (moved (finished t false)) tasks) ≡ but_tasks (released (Step.Busy t) past) (parked_of tasks)
parked_busy o past blocks pending tasks last_tickets room t k = finish_keeps t false tasks k.fit

pub parked_full : (past : List Step) (tasks : List PlainTask) (t : Ticket) → parked_of tasks ≡ but_tasks (released (Step.Full t) past) (parked_of tasks)
parked_full past tasks t = sym (nothing_taken (parked_of tasks))

pub parked_resize : (past : List Step) (tasks : List PlainTask) (blocks : ℕ) → parked_of tasks ≡ but_tasks (released (Step.Resize blocks) past) (parked_of tasks)
parked_resize past tasks blocks = sym (nothing_taken (parked_of tasks))

-- the job of a task that enters is kept where the task is blocked
pub parked_enter : (o : Opening) (past : List Step) (blocks : Blocks) (pending : List Code) (tasks : List PlainTask) (last_tickets : List (Option ℕ)) (room place : ℕ) (j : PlainJob)
    → AreKept o past blocks pending tasks last_tickets room
    → parked_of (tasks ++ entering place tasks j ∷ []) ≡ parked_of tasks ++ cond (is_blocked j.entry (alive past ++ j.entry ∷ [])) (j ∷ []) []
parked_enter o past blocks pending tasks last_tickets room place j k =
    parked_entering place tasks j
    ∙ ap (λ w. parked_of tasks ++ cond (is_blocked j.entry (w ++ j.entry ∷ [])) (j ∷ []) []) (alive_entries past tasks k.set)

-- where it is blocked
pub parked_blocked : (o : Opening) (past : List Step) (blocks : Blocks) (pending : List Code) (tasks : List PlainTask) (last_tickets : List (Option ℕ)) (room place : ℕ) (j : PlainJob)
    → AreKept o past blocks pending tasks last_tickets room → is_blocked j.entry (alive (Step.Enter j.entry ∷ past)) ≡ true
    → parked_of (tasks ++ entering place tasks j ∷ []) ≡ parked_of tasks ++ j ∷ []
parked_blocked o past blocks pending tasks last_tickets room place j k blocked =
    parked_enter o past blocks pending tasks last_tickets room place j k ∙ ap (λ b. parked_of tasks ++ cond b (j ∷ []) []) blocked

-- where it may run at once
pub parked_run : (o : Opening) (past : List Step) (blocks : Blocks) (pending : List Code) (tasks : List PlainTask) (last_tickets : List (Option ℕ)) (room place : ℕ) (j : PlainJob)
    → AreKept o past blocks pending tasks last_tickets room → is_blocked j.entry (alive (Step.Enter j.entry ∷ past)) ≡ false
    → parked_of (tasks ++ entering place tasks j ∷ []) ≡ but_tasks (released (Step.Enter j.entry) past) (parked_of tasks)
parked_run o past blocks pending tasks last_tickets room place j k free =
    parked_enter o past blocks pending tasks last_tickets room place j k
    ∙ ap (λ b. parked_of tasks ++ cond b (j ∷ []) []) free
    ∙ append-nil (parked_of tasks)
    ∙ sym (nothing_taken (parked_of tasks))

free_job : (b : Bool) (j now : PlainJob) → cond b None (Some j) ≡ Some now → (now ≡ j) × (b ≡ false)
free_job true j now h = absurd (cc)
free_job false j now h = (cc, refl)

no_free_job : (b : Bool) (j : PlainJob) → cond b None (Some j) ≡ None → b ≡ true
no_free_job true j h = refl
no_free_job false j h = absurd (cc)

blocked_same : (past : List Step) (tasks : List PlainTask) (j : PlainJob) → seen_of tasks ≡ tasks_of past
    → run_at_once tasks j ≡ cond (is_blocked j.entry (alive (Step.Enter j.entry ∷ past))) None (Some j)
blocked_same past tasks j set = ap (λ w. cond (is_blocked j.entry (w ++ j.entry ∷ [])) None (Some j)) (alive_entries past tasks set)

-- a job that is handed out as it enters is that job, and nothing blocks it
pub run_free : (o : Opening) (past : List Step) (blocks : Blocks) (pending : List Code) (tasks : List PlainTask) (last_tickets : List (Option ℕ)) (room : ℕ) (j now : PlainJob)
    → AreKept o past blocks pending tasks last_tickets room → run_at_once tasks j ≡ Some now
    → (now ≡ j) × (is_blocked j.entry (alive (Step.Enter j.entry ∷ past)) ≡ false)
run_free o past blocks pending tasks last_tickets room j now k h =
    free_job (is_blocked j.entry (alive (Step.Enter j.entry ∷ past))) j now (sym (blocked_same past tasks j k.set) ∙ h)

pub run_blocked : (o : Opening) (past : List Step) (blocks : Blocks) (pending : List Code) (tasks : List PlainTask) (last_tickets : List (Option ℕ)) (room : ℕ) (j : PlainJob)
    → AreKept o past blocks pending tasks last_tickets room → run_at_once tasks j ≡ None → is_blocked j.entry (alive (Step.Enter j.entry ∷ past)) ≡ true
run_blocked o past blocks pending tasks last_tickets room j k h =
    no_free_job (is_blocked j.entry (alive (Step.Enter j.entry ∷ past))) j (sym (blocked_same past tasks j k.set) ∙ h)

waiting_parked : (past : List Step) (es : List Entry) → waiting (map (seen past) es) ≡ filter (is_parked past) es
waiting_parked past [] = refl
waiting_parked past (e ∷ es) = ap (λ w. cond (is_parked past e) (e ∷ w) w) (waiting_parked past es)

-- the unit holds the jobs of the parked tasks and no others
pub holds : (o : Opening) (past : List Step) (blocks : Blocks) (pending : List Code) (tasks : List PlainTask) (last_tickets : List (Option ℕ)) (room : ℕ)
    → AreKept o past blocks pending tasks last_tickets room → tasks_of_jobs (parked_of tasks) ≡ filter (is_parked past) (alive past)
holds o past blocks pending tasks last_tickets room k = jobs_wait tasks k.fit ∙ ap waiting k.set ∙ waiting_parked past (alive past)

-- such parts are a unit
pub is_unit : (o : Opening) (past : List Step) (blocks : Blocks) (pending : List Code) (tasks : List PlainTask) (last_tickets : List (Option ℕ)) (room : ℕ) (keeps : Bool) (storage : Option Ledger)
    → AreKept o past blocks pending tasks last_tickets room → IsUnit (record { opening = o; steps = past; parked = parked_of tasks; keeps_replies = keeps; storage = storage })
is_unit o past blocks pending tasks last_tickets room keeps storage k = record { lawful = k.lawful; holds = holds o past blocks pending tasks last_tickets room k }

jobs_filter : (q : Entry → Bool) (jobs : List PlainJob) → tasks_of_jobs (filter (λ (j : PlainJob). q j.entry) jobs) ≡ filter q (tasks_of_jobs jobs)
jobs_filter q [] = refl
jobs_filter q (j ∷ jobs) =
    elim (q j.entry) as (λ b. tasks_of_jobs (cond b (j ∷ filter (λ (x : PlainJob). q x.entry) jobs) (filter (λ (x : PlainJob). q x.entry) jobs)) ≡ cond b (j.entry ∷ filter q (tasks_of_jobs jobs)) (filter q (tasks_of_jobs jobs))) [
      | true ↦ ap (λ w. j.entry ∷ w) (jobs_filter q jobs)
      | false ↦ jobs_filter q jobs
    ]

both_pass : (p q : Bool) → (q ≡ true → p ≡ true) → (p && q) ≡ q
both_pass true q h = refl
both_pass false true h = h refl
both_pass false false h = refl

each_found : (p q : Entry → Bool) (among es : List Entry) → ((e : Entry) → q e ≡ true → p e ≡ true) → Each (λ e. is_some (task_of e.ticket among) ≡ q e) es
    → Each (λ e. (p e && is_some (task_of e.ticket among)) ≡ q e) es
each_found p q among [] h k = tt
each_found p q among (e ∷ es) h k = (ap (λ b. p e && b) k.0 ∙ both_pass (p e) (q e) (h e), each_found p q among es h k.1)

-- each of some parked tasks has its job
each_job : (past : List Step) (es : List Entry) (q : Entry → Bool) (jobs : List PlainJob) → AreDistinct es → ((e : Entry) → q e ≡ true → is_parked past e ≡ true)
    → tasks_of_jobs jobs ≡ filter (is_parked past) es → tasks_of_jobs (of_tasks (filter q es) jobs) ≡ filter q es
each_job past es q jobs d was holds =
    let among = (λ (e : Entry). is_some (task_of e.ticket (filter q es))) in
    jobs_filter among jobs
    ∙ ap (filter among) holds
    ∙ filter_twice (is_parked past) among es
    ∙ filter_same (λ e. is_parked past e && among e) q es (each_found (is_parked past) q (filter q es) es was (filter_found q es d))

was_freed : (s a b m : Bool) → (s && (not m && (not a && b))) ≡ true → (not a && not m) ≡ true
was_freed false a b m h = absurd (let k : false ≡ true = h in cc)
was_freed true true b true h = absurd (let k : false ≡ true = h in cc)
was_freed true true b false h = absurd (let k : false ≡ true = h in cc)
was_freed true false b true h = absurd (let k : false ≡ true = h in cc)
was_freed true false b false h = refl

was_marked : (a b m : Bool) → (not m && (b && not a)) ≡ true → (not a && not m) ≡ true
was_marked a b true h = absurd (let k : false ≡ true = h in cc)
was_marked true true false h = absurd (let k : false ≡ true = h in cc)
was_marked true false false h = absurd (let k : false ≡ true = h in cc)
was_marked false b false h = refl

each_marked : (o : Opening) (s : Step) (past : List Step) (jobs : List PlainJob) → IsLawful o past → tasks_of_jobs jobs ≡ filter (is_parked past) (alive past)
    → tasks_of_jobs (of_tasks (newly_marked s past) jobs) ≡ newly_marked s past
each_marked o s past jobs l holds =
    each_job past (alive past) (λ e. not (marked e.ticket past) && (marked e.ticket (s ∷ past) && not (enabled e past))) jobs (alive_distinct o past l)
    (λ e h. was_marked (enabled e past) (marked e.ticket (s ∷ past)) (marked e.ticket past) h) holds

each_freed : (o : Opening) (t : Ticket) (past : List Step) (jobs : List PlainJob) → IsLawful o past → tasks_of_jobs jobs ≡ filter (is_parked past) (alive past)
    → tasks_of_jobs (of_tasks (newly_enabled t past) jobs) ≡ newly_enabled t past
each_freed o t past jobs l holds =
    let d = alive_distinct o past l in
    let stays = (λ (e : Entry). not (same_ticket e.ticket t)) in
    let test = (λ (e : Entry). not (marked e.ticket past) && (not (enabled e past) && enabled e (Step.Leave t ∷ past))) in
    subst (λ w. tasks_of_jobs (of_tasks w jobs) ≡ w) (sym (ap (filter test) (without_filter t (alive past) d) ∙ filter_twice stays test (alive past)))
    (each_job past (alive past) (λ e. stays e && test e) jobs d
    (λ e h. was_freed (stays e) (enabled e past) (enabled e (Step.Leave t ∷ past)) (marked e.ticket past) h) holds)

no_jobs : (jobs : List PlainJob) → tasks_of_jobs (of_tasks [] jobs) ≡ []
no_jobs jobs = ap tasks_of_jobs (nothing_given jobs)

-- a unit that holds the jobs of its parked tasks has one for each task that a step hands out
pub each_released : (o : Opening) (s : Step) (past : List Step) (jobs : List PlainJob) → IsLawful o (s ∷ past) → tasks_of_jobs jobs ≡ filter (is_parked past) (alive past)
    → tasks_of_jobs (of_tasks (released s past) jobs) ≡ released s past
each_released o (Step.Enter e) past jobs l holds = no_jobs jobs
each_released o (Step.Full t) past jobs l holds = no_jobs jobs
each_released o (Step.Resize blocks) past jobs l holds = no_jobs jobs
each_released o (Step.Commit t r) past jobs l holds = no_jobs jobs
each_released o (Step.Busy t) past jobs l holds = no_jobs jobs
each_released o (Step.Abort rule) past jobs l holds = each_marked o (Step.Abort rule) past jobs l.0 holds
each_released o (Step.Reset c) past jobs l holds = each_marked o (Step.Reset c) past jobs l.0 holds
each_released o (Step.Leave t) past jobs l holds = each_freed o t past jobs l.0 holds
