-- A unit that goes on by a step still holds the jobs of its parked tasks and no others.
use Rattle.std.proofs.Common.{◌≡◌, Bool, true, false, not, ◌||◌, ◌&&◌, cond, List, [], ◌∷◌, ◌++◌, filter, Option, Some, is_some, refl, sym, ◌∙◌, ap}
use Rattle.std.specs.Prelude.{⊤}
use Rattle.std.proofs.lemmas.List.{append-nil, map-append}
use Rattle.std.proofs.lemmas.List.Elements.{filter-append}
use Rattle.ring_core.specs.declared.log.Ticket.{Ticket}
use Rattle.unit_attention.specs.declared.code.Code.{Code}
use Rattle.unit_model.specs.declared.rule.Rule.{Rule}
use Rattle.unit_model.specs.declared.rule.Rule.TheVariants as rules
use Rattle.unit_model.specs.declared.reason.Reason.{Reason}
use Rattle.unit_model.specs.declared.reason.Reason.TheVariants as reason
use Rattle.unit_model.specs.Tasks.{Entry, same_ticket, task_of, without, is_blocked}
use Rattle.unit_model.specs.Steps.{Step, alive, has_entered}
use Rattle.unit_model.specs.Marks.{is_marked_by, mark_of, marked}
use Rattle.unit_model.specs.Enabling.{enabled, is_parked, newly_enabled, newly_marked}
use Rattle.unit_model.specs.Released.{released}
use Rattle.unit_model.specs.Contents.{Opening}
use Rattle.unit_model.specs.Lawful.{IsLawful, May}
use Rattle.unit_model.proofs.Tickets.{apart}
use Rattle.unit_model.proofs.Fresh.{Others, fresh, fresh_unmarked, above_fresh}
use Rattle.unit_model.proofs.Clearing.{Each, each_map, all_found}
use Rattle.unit_model.proofs.Distinct.{alive_distinct}
use Rattle.unit_model.proofs.Filtered.{filter_found, filter_same, filter_twice}
use Rattle.unit_model.proofs.Blocking.{enabled_entering}
use Rattle.unit_model.proofs.Parked.{enabled_same, some_mark}
use Rattle.unit_model.proofs.Entering.{enabled_other}
use Rattle.unit_model.proofs.Leaving.{leaves_handed}
use Rattle.unit_model.specs.Jobs.{PlainJob, but_tasks}
use Rattle.unit_model.specs.Unit.{PlainUnit, tasks_of_jobs, after as stepped, parking, IsUnit}

-- the task is none of these
abbrev isnt_of : List Entry → Entry → Bool
isnt_of among e = not (is_some (task_of e.ticket among))

jobs_filter : (q : Entry → Bool) (jobs : List PlainJob)
    → tasks_of_jobs (filter (λ (j : PlainJob). q j.entry) jobs) ≡ filter q (tasks_of_jobs jobs)
jobs_filter q [] = refl
jobs_filter q (j ∷ jobs) =
    let rest = filter (λ (x : PlainJob). q x.entry) jobs in
    let tasks = filter q (tasks_of_jobs jobs) in
    elim (q j.entry) as (λ b. tasks_of_jobs (cond b (j ∷ rest) rest) ≡ cond b (j.entry ∷ tasks) tasks) [
      | true ↦ ap (λ w. j.entry ∷ w) (jobs_filter q jobs)
      | false ↦ jobs_filter q jobs
    ]

-- the tasks of the jobs that are kept
kept_jobs : (among : List Entry) (past : List Step) (jobs : List PlainJob)
    → tasks_of_jobs jobs ≡ filter (is_parked past) (alive past)
    → tasks_of_jobs (but_tasks among jobs) ≡ filter (λ e. is_parked past e && isnt_of among e) (alive past)
kept_jobs among past jobs h =
    jobs_filter (isnt_of among) jobs
    ∙ ap (filter (isnt_of among)) h
    ∙ filter_twice (is_parked past) (isnt_of among) (alive past)

each_all : (P : Entry → Type 0) (es : List Entry) → ((e : Entry) → P e) → Each P es
each_all P [] h = tt
each_all P (e ∷ es) h = (h e, each_all P es h)

-- A step that leaves the alive tasks as they are and marks none

abbrev Goes : Step → List Step → Type 0
Goes s past =
    filter (λ e. is_parked past e && isnt_of (released s past) e) (alive past)
    ≡ filter (is_parked (s ∷ past)) (alive (s ∷ past))

and_true : (b : Bool) → (b && not false) ≡ b
and_true true = refl
and_true false = refl

calm_one : (e : Entry) (s r : Step) (past : List Step)
    → has_entered e.ticket (s ∷ r ∷ past) ≡ has_entered e.ticket (r ∷ past)
    → alive (s ∷ r ∷ past) ≡ alive (r ∷ past) → marked e.ticket (s ∷ r ∷ past) ≡ marked e.ticket (r ∷ past)
    → (is_parked (r ∷ past) e && not false) ≡ is_parked (s ∷ r ∷ past) e
calm_one e s r past n a m =
    and_true (is_parked (r ∷ past) e)
    ∙ ap (λ b. not b && not (marked e.ticket (r ∷ past))) (sym (enabled_same e s r past n a))
    ∙ ap (λ b. not (enabled e (s ∷ r ∷ past)) && not b) (sym m)

calm : (s : Step) (past : List Step) → released s past ≡ [] → alive (s ∷ past) ≡ alive past
    → ((t : Ticket) → has_entered t (s ∷ past) ≡ has_entered t past) → ((t : Ticket)
    → marked t (s ∷ past) ≡ marked t past)
    → Goes s past
calm s [] none a n m = sym (ap (filter (is_parked (s ∷ []))) a)
calm s (r ∷ past) none a n m =
    let h = r ∷ past in
    ap (λ w. filter (λ e. is_parked h e && isnt_of w e) (alive h)) none
    ∙ filter_same (λ e. is_parked h e && not false) (is_parked (s ∷ h)) (alive h)
    (each_all (λ e. (is_parked h e && not false)
    ≡ is_parked (s ∷ h) e) (alive h) (λ e. calm_one e s r past (n e.ticket) a (m e.ticket)))
    ∙ ap (filter (is_parked (s ∷ h))) (sym a)

-- A step that marks

mark_kept : (a m b f : Bool) → f ≡ (not m && ((m || b) && not a))
    → ((not a && not m) && not f) ≡ (not a && not (m || b))
mark_kept true m b f h = refl
mark_kept false true b f h = refl
mark_kept false false true f h = ap not h
mark_kept false false false f h = ap not h

mark_at : (a a' m m' b f : Bool) → a' ≡ a → m' ≡ (m || b) → f ≡ (not m && (m' && not a))
    → ((not a && not m) && not f) ≡ (not a' && not m')
mark_at a a' m m' b f p q h =
    mark_kept a m b f (h ∙ ap (λ c. not m && (c && not a)) q)
    ∙ ap (λ c. not c && not (m || b)) (sym p)
    ∙ ap (λ c. not a' && not c) (sym q)

marking : (o : Opening) (s r : Step) (past : List Step) (how : Ticket → Bool) → IsLawful o (r ∷ past)
    → ((t : Ticket) → has_entered t (s ∷ r ∷ past) ≡ has_entered t (r ∷ past)) → alive (s ∷ r ∷ past) ≡ alive (r ∷ past)
    → ((t : Ticket) → marked t (s ∷ r ∷ past) ≡ (marked t (r ∷ past) || how t))
    → filter (λ e. is_parked (r ∷ past) e && isnt_of (newly_marked s (r ∷ past)) e) (alive (r ∷ past))
    ≡ filter (is_parked (s ∷ r ∷ past)) (alive (r ∷ past))
marking o s r past how l n a m =
    let h = r ∷ past in
    let test = (λ (e : Entry). not (marked e.ticket h) && (marked e.ticket (s ∷ h) && not (enabled e h))) in
    filter_same (λ e. is_parked h e && isnt_of (newly_marked s h) e) (is_parked (s ∷ h)) (alive h)
    (each_map (λ e. is_some (task_of e.ticket (newly_marked s h)) ≡ test e)
    (λ e. (is_parked h e && isnt_of (newly_marked s h) e) ≡ is_parked (s ∷ h) e) (alive h)
    (λ e found. mark_at (enabled e h) (enabled e (s ∷ h)) (marked e.ticket h) (marked e.ticket (s ∷ h)) (how e.ticket)
    (is_some (task_of e.ticket (newly_marked s h))) (enabled_same e s r past (n e.ticket) a) (m e.ticket) found)
    (filter_found test (alive h) (alive_distinct o h l)))

goes_abort : (o : Opening) (rule : Rule) (past : List Step) → IsLawful o past → Goes (Step.Abort rule) past
goes_abort o rule [] l = refl
goes_abort o rule (r ∷ past) l =
    marking o (Step.Abort rule) r past (λ t. is_marked_by rule t (r ∷ past)) l (λ t. refl) refl
    (λ t. some_mark (mark_of t (r ∷ past)) (is_marked_by rule t (r ∷ past)) reason.Aborted)

goes_reset : (o : Opening) (c : Code) (past : List Step) → IsLawful o past → Goes (Step.Reset c) past
goes_reset o c [] l = refl
goes_reset o c (r ∷ past) l =
    marking o (Step.Reset c) r past (λ t. is_marked_by rules.All t (r ∷ past)) l (λ t. refl) refl
    (λ t. some_mark (mark_of t (r ∷ past)) (is_marked_by rules.All t (r ∷ past)) reason.Reset)

-- A Leave

filter_without : (q : Entry → Bool) (t : Ticket) (es : List Entry) (e : Entry) → task_of t es ≡ Some e → q e ≡ false
    → filter q es ≡ filter q (without t es)
filter_without q t [] e at off = refl
filter_without q t (x ∷ es) e at off =
    (elim (same_ticket x.ticket t) as (λ b. cond b (Some x) (task_of t es) ≡ Some e
    → filter q (x ∷ es) ≡ filter q (cond b es (x ∷ without t es))) [
      | true ↦ λ k.
          let is : x ≡ e = cc in
          ap (λ b. cond b (x ∷ filter q es) (filter q es)) (ap q is ∙ off)
      | false ↦ λ k. ap (λ w. cond (q x) (x ∷ w) w) (filter_without q t es e k off)
    ]) at

leave_kept : (a n m f : Bool) → f ≡ (not m && (not a && (a || n)))
    → ((not a && not m) && not f) ≡ (not (a || n) && not m)
leave_kept true n m f h = refl
leave_kept false true true f h = refl
leave_kept false true false f h = ap not h
leave_kept false false true f h = refl
leave_kept false false false f h = ap not h

goes_leave : (o : Opening) (t : Ticket) (past : List Step) → IsLawful o past → May o (Step.Leave t) past
    → Goes (Step.Leave t) past
goes_leave o t past l may =
    let s = Step.Leave t in
    let es = alive (s ∷ past) in
    let gone = newly_enabled t past in
    let q = (λ (e : Entry). is_parked past e && isnt_of gone e) in
    let test = (λ (e : Entry). not (marked e.ticket past) && (not (enabled e past) && enabled e (s ∷ past))) in
    let off = ap (λ b. b && isnt_of gone may.0) (leaves_handed o past t may.0 l may.1 may.2) in
    filter_without q t (alive past) may.0 may.1 off
    ∙ filter_same q (is_parked (s ∷ past)) es
    (each_map (λ e. is_some (task_of e.ticket gone) ≡ test e) (λ e. q e ≡ is_parked (s ∷ past) e) es
    (λ e found. leave_kept (enabled e past) (has_entered e.ticket past && not (is_blocked e es)) (marked e.ticket past)
    (is_some (task_of e.ticket gone)) found)
    (filter_found test es (alive_distinct o (s ∷ past) (l, may))))

-- An Enter

parked_other : (e : Entry) (s : Step) (past : List Step) (es : List Entry)
    → Each (λ f. is_some (task_of f.ticket (alive (s ∷ past))) ≡ true) es → Others e.ticket es
    → Each (λ f. is_parked (Step.Enter e ∷ s ∷ past) f ≡ is_parked (s ∷ past) f) es
parked_other e s past [] found h = tt
parked_other e s past (f ∷ es) found h = (
  ap (λ b. not b && not (marked f.ticket (s ∷ past))) (enabled_other e f s past (apart f.ticket e.ticket h.0) found.0),
  parked_other e s past es found.1 h.1,
)

old_parked : (e : Entry) (past : List Step) → has_entered e.ticket past ≡ false
    → filter (is_parked (Step.Enter e ∷ past)) (alive past) ≡ filter (is_parked past) (alive past)
old_parked e [] n = refl
old_parked e (s ∷ past) n =
    let h = s ∷ past in
    filter_same (is_parked (Step.Enter e ∷ h)) (is_parked h) (alive h)
    (parked_other e s past (alive h) (all_found (alive h)) (fresh e.ticket h n))

its_own : (b : Bool) → (not (not b) && not false) ≡ b
its_own true = refl
its_own false = refl

new_parked : (e : Entry) (past : List Step) → has_entered e.ticket past ≡ false
    → is_parked (Step.Enter e ∷ past) e ≡ is_blocked e (alive (Step.Enter e ∷ past))
new_parked e past n =
    let blocked = is_blocked e (alive (Step.Enter e ∷ past)) in
    ap (λ b. not b && not (marked e.ticket past)) (enabled_entering e past n)
    ∙ ap (λ (m : Option Reason). not (not blocked) && not (is_some m)) (fresh_unmarked e.ticket past n)
    ∙ its_own blocked

-- the task that enters is parked where it is blocked
entered : (e : Entry) (past : List Step) (b : Bool) → has_entered e.ticket past ≡ false
    → is_blocked e (alive (Step.Enter e ∷ past)) ≡ b
    → filter (is_parked (Step.Enter e ∷ past)) (alive (Step.Enter e ∷ past))
    ≡ filter (is_parked past) (alive past) ++ cond b (e ∷ []) []
entered e past b n blocked =
    let q = is_parked (Step.Enter e ∷ past) in
    filter-append q (alive past) (e ∷ [])
    ∙ ap (λ w. w ++ filter q (e ∷ [])) (old_parked e past n)
    ∙ ap (λ c. filter (is_parked past) (alive past) ++ cond c (e ∷ []) []) (new_parked e past n ∙ blocked)

all_but_none : (past : List Step)
    → filter (λ e. is_parked past e && not false) (alive past) ≡ filter (is_parked past) (alive past)
all_but_none past =
    filter_same (λ e. is_parked past e && not false) (is_parked past) (alive past)
    (each_all (λ e. (is_parked past e && not false) ≡ is_parked past e) (alive past) (λ e. and_true (is_parked past e)))

-- a task that enters may run at once
abbrev pub IsFree : Step → List Step → Type 0
IsFree (Step.Enter e) past = is_blocked e (alive (Step.Enter e ∷ past)) ≡ false
IsFree s past = ⊤

goes : (o : Opening) (s : Step) (past : List Step) → IsLawful o past → May o s past → IsFree s past → Goes s past
goes o (Step.Enter e) past l may free =
    all_but_none past
    ∙ sym (append-nil (filter (is_parked past) (alive past)))
    ∙ sym (entered e past false (above_fresh o e.ticket past l may.1) free)
goes o (Step.Full t) past l may free = calm (Step.Full t) past refl refl (λ u. refl) (λ u. refl)
goes o (Step.Resize blocks) past l may free = calm (Step.Resize blocks) past refl refl (λ u. refl) (λ u. refl)
goes o (Step.Commit t r) past l may free = calm (Step.Commit t r) past refl refl (λ u. refl) (λ u. refl)
goes o (Step.Busy t) past l may free = calm (Step.Busy t) past refl refl (λ u. refl) (λ u. refl)
goes o (Step.Abort rule) past l may free = goes_abort o rule past l
goes o (Step.Reset c) past l may free = goes_reset o c past l
goes o (Step.Leave t) past l may free = goes_leave o t past l may

-- a unit that goes on by a step is a unit
pub unit_goes : (s : Step) (u : PlainUnit) → May u.opening s u.steps → IsFree s u.steps → IsUnit u
    → IsUnit (stepped s u)
unit_goes s u may free is =
    record {
      lawful = (is.lawful, may);
      holds = kept_jobs (released s u.steps) u.steps u.parked is.holds ∙ goes u.opening s u.steps is.lawful may free;
    }

-- and so is one that keeps the job of a task that is blocked as it enters
pub unit_parks : (x : PlainJob) (u : PlainUnit) → May u.opening (Step.Enter x.entry) u.steps
    → is_blocked x.entry (alive (Step.Enter x.entry ∷ u.steps)) ≡ true → IsUnit u → IsUnit (parking x u)
unit_parks x u may blocked is =
    record {
      lawful = (is.lawful, may);
      holds =
          map-append (λ (j : PlainJob). j.entry) u.parked (x ∷ [])
          ∙ ap (λ w. w ++ x.entry ∷ []) is.holds
          ∙ sym (entered x.entry u.steps true (above_fresh u.opening x.entry.ticket u.steps is.lawful may.1) blocked);
    }
