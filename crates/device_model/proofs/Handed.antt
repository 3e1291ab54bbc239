-- What one step of a unit leaves of the tasks that were handed out, and what it makes of those that it hands out.
use Rattle.std.proofs.Common.{◌≡◌, Bool, true, false, not, ◌||◌, ◌&&◌, cond, List, [], ◌∷◌, ◌++◌, filter, Some, None, is_some, refl, sym, ◌∙◌, ap, subst}
use Rattle.std.specs.Prelude.{⊤}
use Rattle.std.specs.List.{AllByRecursion}
use Rattle.ring_core.specs.declared.log.Ticket.{Ticket}
use Rattle.unit_model.specs.Tasks.{Entry, same_ticket, task_of, is_blocked}
use Rattle.unit_model.specs.Steps.{Step, alive, done}
use Rattle.unit_model.specs.Marks.{marked}
use Rattle.unit_model.specs.Enabling.{enabled, is_parked, newly_enabled, newly_marked}
use Rattle.unit_model.specs.Released.{released}
use Rattle.unit_model.specs.Contents.{Opening}
use Rattle.unit_model.specs.Lawful.{IsLawful, May}
use Rattle.unit_model.proofs.Tickets.{same-true, itself, clash, or_right}
use Rattle.unit_model.proofs.Fresh.{fresh, none_of, above_fresh, fresh_undone}
use Rattle.unit_model.proofs.Clearing.{Each, each_filter}
use Rattle.unit_model.proofs.Distinct.{task_without_other, alive_distinct}
use Rattle.unit_model.proofs.Filtered.{filter_found, each_passes}
use Rattle.unit_model.proofs.Blocking.{enabled_entering}
use Rattle.unit_model.proofs.Leaving.{done_enabled, leaves_handed}
use Rattle.unit_model.proofs.Keeping.{all_own}
use Rattle.unit_model.proofs.Marking.{done_on, marked_lasts}
use Rattle.unit_model.specs.Jobs.{PlainJob, is_job_of, of_tasks}
use Rattle.unit_model.specs.Unit.{tasks_of_jobs}

nothing : {X : Type 0} {x : X} → None ≡ Some x → ⊥
nothing e = cc

-- the task is alive as it entered, may run or was marked, and isn't done
abbrev pub IsOpen : Entry → List Step → Type 0
IsOpen e past =
    (task_of e.ticket (alive past) ≡ Some e) × ((enabled e past || marked e.ticket past) ≡ true)
    × (done e.ticket past ≡ false)

-- the task is alive, and is done or was marked
abbrev pub IsEnded : Ticket → List Step → Type 0
IsEnded t past = (e : Entry) × (task_of t (alive past) ≡ Some e) × ((done t past || marked t past) ≡ true)

-- the step is no end of the ticket's task
abbrev pub Spares : Step → Ticket → Type 0
Spares (Step.Commit u r) t = same_ticket u t ≡ false
Spares (Step.Busy u) t = same_ticket u t ≡ false
Spares (Step.Leave u) t = same_ticket u t ≡ false
Spares s t = ⊤

found_push : (t : Ticket) (f : Entry) (es : List Entry) (e : Entry) → task_of t es ≡ Some e
    → task_of t (es ++ f ∷ []) ≡ Some e
found_push t f [] e h = absurd (nothing h)
found_push t f (x ∷ es) e h =
    (elim (same_ticket x.ticket t) as (λ b. cond b (Some x) (task_of t es) ≡ Some e
    → cond b (Some x) (task_of t (es ++ f ∷ [])) ≡ Some e) [
      | true ↦ λ k. k
      | false ↦ λ k. found_push t f es e k
    ]) h

pub alive_on : (s : Step) (t : Ticket) (past : List Step) (e : Entry) → Spares s t → task_of t (alive past) ≡ Some e
    → task_of t (alive (s ∷ past)) ≡ Some e
alive_on (Step.Enter f) t past e sp h = found_push t f (alive past) e h
alive_on (Step.Leave u) t past e sp h = task_without_other t u (alive past) sp ∙ h
alive_on (Step.Full u) t past e sp h = h
alive_on (Step.Resize blocks) t past e sp h = h
alive_on (Step.Commit u r) t past e sp h = h
alive_on (Step.Busy u) t past e sp h = h
alive_on (Step.Abort rule) t past e sp h = h
alive_on (Step.Reset c) t past e sp h = h

pub undone_on : (s : Step) (t : Ticket) (past : List Step) → Spares s t → done t past ≡ false → done t (s ∷ past) ≡ false
undone_on (Step.Commit u r) t past sp h = ap (λ b. b || done t past) sp ∙ h
undone_on (Step.Busy u) t past sp h = ap (λ b. b || done t past) sp ∙ h
undone_on (Step.Enter f) t past sp h = h
undone_on (Step.Full u) t past sp h = h
undone_on (Step.Resize blocks) t past sp h = h
undone_on (Step.Leave u) t past sp h = h
undone_on (Step.Abort rule) t past sp h = h
undone_on (Step.Reset c) t past sp h = h

pub either : (a b c d : Bool) → (a ≡ true → c ≡ true) → (b ≡ true → d ≡ true) → (a || b) ≡ true → (c || d) ≡ true
either true b c d f g h = ap (λ x. x || d) (f refl)
either false b c d f g h = or_right c d (g h)

-- a task that the step spares stays as it is
pub ended_on : (s : Step) (t : Ticket) (past : List Step) → Spares s t → IsEnded t past → IsEnded t (s ∷ past)
ended_on s t past sp h = (
  h.0,
  alive_on s t past h.0 sp h.1,
  either (done t past) (marked t past) (done t (s ∷ past)) (marked t (s ∷ past))
      (done_on s t past) (marked_lasts t (s ∷ []) past) h.2,
)

-- A task that enters and isn't blocked

found_last : (e : Entry) (es : List Entry) → task_of e.ticket es ≡ None → task_of e.ticket (es ++ e ∷ []) ≡ Some e
found_last e [] h = ap (λ b. cond b (Some e) None) (itself e.ticket)
found_last e (x ∷ es) h =
    (elim (same_ticket x.ticket e.ticket) as (λ b. cond b (Some x) (task_of e.ticket es) ≡ None
    → cond b (Some x) (task_of e.ticket (es ++ e ∷ [])) ≡ Some e) [
      | true ↦ λ k. absurd (nothing (sym k))
      | false ↦ λ k. found_last e es k
    ]) h

pub open_entered : (o : Opening) (e : Entry) (past : List Step) → IsLawful o past → May o (Step.Enter e) past
    → is_blocked e (alive (Step.Enter e ∷ past)) ≡ false → IsOpen e (Step.Enter e ∷ past)
open_entered o e past l may free =
    let n = above_fresh o e.ticket past l may.1 in
    let on = enabled_entering e past n ∙ ap not free in (
      found_last e (alive past) (none_of e.ticket (alive past) (fresh e.ticket past n)),
      ap (λ b. b || marked e.ticket past) on,
      fresh_undone o e.ticket past l n,
    )

-- A task that is handed out

abbrev Jobs : (PlainJob → Type 0) → List PlainJob → Type 0
Jobs P jobs = AllByRecursion P jobs

-- what holds of each task of jobs
of_entries : (P : Entry → Type 0) (jobs : List PlainJob) → Each P (tasks_of_jobs jobs) → Jobs (λ j. P j.entry) jobs
of_entries P [] h = tt
of_entries P (j ∷ jobs) h = (h.0, of_entries P jobs h.1)

-- what holds of those of some tasks, knowing so
those : (P Q : PlainJob → Type 0) (among : List Entry) (jobs : List PlainJob)
    → ((j : PlainJob) → P j → is_job_of among j ≡ true → Q j) → Jobs P jobs → Jobs Q (of_tasks among jobs)
those P Q among [] f h = tt
those P Q among (j ∷ jobs) f h =
    (elim (is_job_of among j) as (λ b. is_job_of among j ≡ b
    → Jobs Q (cond b (j ∷ of_tasks among jobs) (of_tasks among jobs))) [
      | true ↦ λ k. (f j h.0 k, those P Q among jobs f h.1)
      | false ↦ λ k. those P Q among jobs f h.1
    ]) refl

both : (P Q : Entry → Type 0) (es : List Entry) → Each P es → Each Q es → Each (λ e. P e × Q e) es
both P Q [] h k = tt
both P Q (e ∷ es) h k = ((h.0, k.0), both P Q es h.1 k.1)

-- what holds of each holds of the one that is found
at_found : (P : Entry → Type 0) (t : Ticket) (es : List Entry) (e : Entry) → Each P es → task_of t es ≡ Some e → P e
at_found P t [] e h k = absurd (nothing k)
at_found P t (x ∷ es) e h k =
    (elim (same_ticket x.ticket t) as (λ b. cond b (Some x) (task_of t es) ≡ Some e → P e) [
      | true ↦ λ q. let is : x ≡ e = cc in subst P is h.0
      | false ↦ λ q. at_found P t es e h.1 q
    ]) k

abbrev pub IsParked : List Step → Entry → Type 0
IsParked past e = (task_of e.ticket (alive past) ≡ Some e) × (is_parked past e ≡ true)

pub all_parked : (o : Opening) (past : List Step) (jobs : List PlainJob) → IsLawful o past
    → tasks_of_jobs jobs ≡ filter (is_parked past) (alive past) → Jobs (λ j. IsParked past j.entry) jobs
all_parked o past jobs l h =
    let P = (λ (e : Entry). task_of e.ticket (alive past) ≡ Some e) in
    let Q = (λ (e : Entry). is_parked past e ≡ true) in
    let es = filter (is_parked past) (alive past) in
    let own = each_filter P (is_parked past) (alive past) (all_own (alive past) (alive_distinct o past l)) in
    let pass = each_passes (is_parked past) (alive past) in
    of_entries (IsParked past) jobs (subst (Each (IsParked past)) (sym h) (both P Q es own pass))

off_first : (a b : Bool) → (not a && not b) ≡ true → a ≡ false
off_first true b h = cc
off_first false b h = refl

-- a task that is parked isn't done
pub parked_undone : (o : Opening) (past : List Step) (e : Entry) → IsLawful o past → IsParked past e
    → done e.ticket past ≡ false
parked_undone o past e l h =
    (elim (done e.ticket past) as (λ b. done e.ticket past ≡ b → b ≡ false) [
      | true ↦ λ k. absurd (clash (sym (done_enabled o past e l h.0 k)
          ∙ off_first (enabled e past) (marked e.ticket past) h.1))
      | false ↦ λ k. refl
    ]) refl

last_on : (a b c : Bool) → (not a && (not b && c)) ≡ true → c ≡ true
last_on true b c h = cc
last_on false true c h = cc
last_on false false c h = h

middle_on : (a b c : Bool) → (not a && (b && not c)) ≡ true → b ≡ true
middle_on true b c h = cc
middle_on false true c h = refl
middle_on false false c h = cc

-- a Leave spares what was parked
spares_parked : (o : Opening) (t : Ticket) (past : List Step) (e : Entry) → IsLawful o past → May o (Step.Leave t) past
    → IsParked past e → same_ticket t e.ticket ≡ false
spares_parked o t past e l may h =
    (elim (same_ticket t e.ticket) as (λ b. same_ticket t e.ticket ≡ b → b ≡ false) [
      | true ↦ λ k.
          let at = ap (λ u. task_of u (alive past)) (same-true t e.ticket k) ∙ h.0 in
          let off = leaves_handed o past t e l at may.2 in
          absurd (clash (sym h.1 ∙ off))
      | false ↦ λ k. refl
    ]) refl

given_by_leave : (o : Opening) (t : Ticket) (past : List Step) (e : Entry) → IsLawful o past → May o (Step.Leave t) past
    → IsParked past e → is_some (task_of e.ticket (newly_enabled t past)) ≡ true → IsOpen e (Step.Leave t ∷ past)
given_by_leave o t past e l may h k =
    let s = Step.Leave t in
    let sp = spares_parked o t past e l may h in
    let at = alive_on s e.ticket past e sp h.0 in
    let test = (λ (f : Entry). not (marked f.ticket past) && (not (enabled f past) && enabled f (s ∷ past))) in
    let found = at_found (λ f. is_some (task_of f.ticket (newly_enabled t past)) ≡ test f) e.ticket (alive (s ∷ past)) e
    (filter_found test (alive (s ∷ past)) (alive_distinct o (s ∷ past) (l, may))) at in
    let on = last_on (marked e.ticket past) (enabled e past) (enabled e (s ∷ past)) (sym found ∙ k) in
    (at, ap (λ b. b || marked e.ticket past) on, parked_undone o past e l h)

given_by_mark : (o : Opening) (s : Step) (past : List Step) (e : Entry) → IsLawful o past
    → alive (s ∷ past) ≡ alive past → done e.ticket (s ∷ past) ≡ done e.ticket past
    → IsParked past e → is_some (task_of e.ticket (newly_marked s past)) ≡ true → IsOpen e (s ∷ past)
given_by_mark o s past e l same undone h k =
    let test = (λ (f : Entry). not (marked f.ticket past) && (marked f.ticket (s ∷ past) && not (enabled f past))) in
    let found = at_found (λ f. is_some (task_of f.ticket (newly_marked s past)) ≡ test f) e.ticket (alive past) e
    (filter_found test (alive past) (alive_distinct o past l)) h.0 in
    let on = middle_on (marked e.ticket past) (marked e.ticket (s ∷ past)) (enabled e past) (sym found ∙ k) in (
      ap (task_of e.ticket) same ∙ h.0,
      or_right (enabled e (s ∷ past)) (marked e.ticket (s ∷ past)) on,
      undone ∙ parked_undone o past e l h,
    )

given : (o : Opening) (s : Step) (past : List Step) (e : Entry) → IsLawful o past → May o s past → IsParked past e
    → is_some (task_of e.ticket (released s past)) ≡ true → IsOpen e (s ∷ past)
given o (Step.Leave t) past e l may h k = given_by_leave o t past e l may h k
given o (Step.Abort rule) past e l may h k = given_by_mark o (Step.Abort rule) past e l refl refl h k
given o (Step.Reset c) past e l may h k = given_by_mark o (Step.Reset c) past e l refl refl h k
given o (Step.Enter f) past e l may h k = absurd (clash (sym k))
given o (Step.Full u) past e l may h k = absurd (clash (sym k))
given o (Step.Resize blocks) past e l may h k = absurd (clash (sym k))
given o (Step.Commit u r) past e l may h k = absurd (clash (sym k))
given o (Step.Busy u) past e l may h k = absurd (clash (sym k))

-- the tasks of the jobs that a step hands out may run or were marked after it
pub open_given : (o : Opening) (s : Step) (past : List Step) (jobs : List PlainJob) → IsLawful o past → May o s past
    → tasks_of_jobs jobs ≡ filter (is_parked past) (alive past)
    → AllByRecursion (λ j. IsOpen j.entry (s ∷ past)) (of_tasks (released s past) jobs)
open_given o s past jobs l may h =
    those (λ j. IsParked past j.entry) (λ j. IsOpen j.entry (s ∷ past)) (released s past) jobs
    (λ j p k. given o s past j.entry l may p k) (all_parked o past jobs l h)
