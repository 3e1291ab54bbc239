-- What a step hands out, by what a task set keeps of each task.
use Rattle.std.proofs.Common.{◌≡◌, Bool, true, false, not, ◌&&◌, ◌||◌, cond, List, [], ◌∷◌, Some, None, is_some, refl, sym, ◌∙◌, ap}
use Rattle.ring_core.specs.declared.log.Ticket.{Ticket}
use Rattle.unit_attention.specs.declared.code.Code.{Code}
use Rattle.unit_model.specs.declared.rule.Rule.{Rule}
use Rattle.unit_model.specs.declared.rule.Rule.TheVariants as rules
use Rattle.unit_model.specs.declared.reason.Reason.{Reason}
use Rattle.unit_model.specs.declared.reason.Reason.TheVariants as reason
use Rattle.unit_model.specs.Tasks.{Entry, same_ticket, task_of, without, is_blocked, meets, AreDistinct}
use Rattle.unit_model.specs.Steps.{Step, alive, has_entered, done}
use Rattle.unit_model.specs.Marks.{meets_one, is_marked_by, first_mark, mark_of, marked}
use Rattle.unit_model.specs.Enabling.{enabled, is_parked, newly_enabled, newly_marked}
use Rattle.unit_model.specs.Released.{released}
use Rattle.unit_model.specs.Seen.{seen, waits, with_mark, freed}
use Rattle.unit_model.specs.Contents.{Opening}
use Rattle.unit_model.specs.Lawful.{IsLawful}
use Rattle.unit_model.proofs.Tickets.{itself, apart}
use Rattle.unit_model.proofs.Distinct.{alive_distinct, without_none}
use Rattle.unit_model.proofs.Clearing.{Each, each_map}
use Rattle.unit_model.proofs.Fewer.{all_entered}
use Rattle.unit_model.proofs.Parked.{some_mark}
use Rattle.unit_model.proofs.Filtered.{filter_none, filter_found, each_passes, other_head}

-- where both hold of each task, so does what follows from both
pub each_both : (P Q R : Entry → Type 0) (es : List Entry) → ((e : Entry) → P e → Q e → R e) → Each P es → Each Q es → Each R es
each_both P Q R [] f p q = tt
each_both P Q R (e ∷ es) f p q = (f e p.0 q.0, each_both P Q R es f p.1 q.1)

-- a task is found by its ticket
abbrev pub IsThere : List Entry → Entry → Type 0
IsThere all e = task_of e.ticket all ≡ Some e

there_behind : (x : Entry) (all es : List Entry) → task_of x.ticket es ≡ None → Each (IsThere all) es → Each (IsThere (x ∷ all)) es
there_behind x all [] n h = tt
there_behind x all (e ∷ es) n h =
    let k = other_head x.ticket e es n in
    (ap (λ b. cond b (Some x) (task_of e.ticket all)) (apart e.ticket x.ticket k.0) ∙ h.0, there_behind x all es k.1 h.1)

-- where no ticket stands twice, each task is found by its ticket
pub all_there : (es : List Entry) → AreDistinct es → Each (λ e. task_of e.ticket es ≡ Some e) es
all_there [] d = tt
all_there (x ∷ es) d =
    (ap (λ b. cond b (Some x) (task_of x.ticket es)) (itself x.ticket), there_behind x es es d.0 (all_there es d.1))

frees : (a b m : Bool) → (not m && (not a && (a || b))) ≡ ((not a && not m) && not (not (a || b) && not m))
frees true true true = refl
frees true true false = refl
frees true false true = refl
frees true false false = refl
frees false true true = refl
frees false true false = refl
frees false false true = refl
frees false false false = refl

-- a Leave hands out what waited, and waits no more
abbrev FreedBy : Ticket → List Step → Entry → Type 0
FreedBy t past e =
    is_some (task_of e.ticket (newly_enabled t past)) ≡ (waits (seen past e) && not (waits (freed (alive (Step.Leave t ∷ past)) (seen past e))))

freed_one : (t : Ticket) (past : List Step) (e : Entry) → has_entered e.ticket past ≡ true
    → is_some (task_of e.ticket (newly_enabled t past)) ≡ (not (marked e.ticket past) && (not (enabled e past) && enabled e (Step.Leave t ∷ past)))
    → FreedBy t past e
freed_one t past e n h =
    h
    ∙ ap (λ b. not (marked e.ticket past) && (not (enabled e past) && (enabled e past || (b && not (is_blocked e (alive (Step.Leave t ∷ past))))))) n
    ∙ frees (enabled e past) (not (is_blocked e (alive (Step.Leave t ∷ past)))) (marked e.ticket past)

pub released_by_leave : (o : Opening) (t : Ticket) (past : List Step) → IsLawful o (Step.Leave t ∷ past)
    → Each (λ e. is_some (task_of e.ticket (newly_enabled t past)) ≡ (waits (seen past e) && not (waits (freed (alive (Step.Leave t ∷ past)) (seen past e))))) (alive (Step.Leave t ∷ past))
released_by_leave o t past l =
    each_both (λ e. has_entered e.ticket past ≡ true)
    (λ e. is_some (task_of e.ticket (newly_enabled t past)) ≡ (not (marked e.ticket past) && (not (enabled e past) && enabled e (Step.Leave t ∷ past))))
    (FreedBy t past) (alive (Step.Leave t ∷ past)) (freed_one t past) (all_entered (Step.Leave t ∷ past))
    (filter_found (λ e. not (marked e.ticket past) && (not (enabled e past) && enabled e (Step.Leave t ∷ past))) (alive (Step.Leave t ∷ past)) (alive_distinct o (Step.Leave t ∷ past) l))

-- the task that leaves isn't handed out by it
pub leaving_unreleased : (o : Opening) (t : Ticket) (past : List Step) → IsLawful o (Step.Leave t ∷ past) → task_of t (newly_enabled t past) ≡ None
leaving_unreleased o t past l =
    filter_none (λ e. not (marked e.ticket past) && (not (enabled e past) && enabled e (Step.Leave t ∷ past))) t (alive (Step.Leave t ∷ past))
    (without_none t (alive past) (alive_distinct o past l.0))

-- whether it is with_mark, of a task that is there
strikes_there : (rule : Rule) (past : List Step) (e : Entry) → task_of e.ticket (alive past) ≡ Some e → is_marked_by rule e.ticket past ≡ (meets rule e && not (done e.ticket past))
strikes_there rule past e h = ap (λ w. meets_one rule w && not (done e.ticket past)) h

marks : (a m b : Bool) → (not m && ((m || b) && not a)) ≡ ((not a && not m) && not (not a && not (m || b)))
marks true true true = refl
marks true true false = refl
marks true false true = refl
marks true false false = refl
marks false true true = refl
marks false true false = refl
marks false false true = refl
marks false false false = refl

abbrev MarkedBy : Step → Rule → Reason → List Step → Entry → Type 0
MarkedBy s rule why past e = is_some (task_of e.ticket (newly_marked s past)) ≡ (waits (seen past e) && not (waits (with_mark rule why (seen past e))))

-- of an Abort and of a Reset: it waited, and waits no more
with_mark_one : (s : Step) (rule : Rule) (why : Reason) (past : List Step) (e : Entry) → mark_of e.ticket (s ∷ past) ≡ first_mark (mark_of e.ticket past) (is_marked_by rule e.ticket past) why
    → task_of e.ticket (alive past) ≡ Some e
    → is_some (task_of e.ticket (newly_marked s past)) ≡ (not (marked e.ticket past) && (marked e.ticket (s ∷ past) && not (enabled e past)))
    → MarkedBy s rule why past e
with_mark_one s rule why past e by there h =
    let with_mark_now = first_mark (mark_of e.ticket past) (meets rule e && not (done e.ticket past)) why in
    let now : marked e.ticket (s ∷ past) ≡ is_some with_mark_now = ap (λ m. is_some m) (by ∙ ap (λ b. first_mark (mark_of e.ticket past) b why) (strikes_there rule past e there)) in
    let either : is_some with_mark_now ≡ (marked e.ticket past || (meets rule e && not (done e.ticket past))) = some_mark (mark_of e.ticket past) (meets rule e && not (done e.ticket past)) why in
    h
    ∙ ap (λ b. not (marked e.ticket past) && (b && not (enabled e past))) (now ∙ either)
    ∙ marks (enabled e past) (marked e.ticket past) (meets rule e && not (done e.ticket past))
    ∙ ap (λ b. (not (enabled e past) && not (marked e.ticket past)) && not (not (enabled e past) && not b)) (sym either)

with_mark_each : (o : Opening) (s : Step) (rule : Rule) (why : Reason) (past : List Step) → IsLawful o past
    → ((e : Entry) → mark_of e.ticket (s ∷ past) ≡ first_mark (mark_of e.ticket past) (is_marked_by rule e.ticket past) why)
    → Each (MarkedBy s rule why past) (alive past)
with_mark_each o s rule why past l by =
    each_both (IsThere (alive past))
    (λ e. is_some (task_of e.ticket (newly_marked s past)) ≡ (not (marked e.ticket past) && (marked e.ticket (s ∷ past) && not (enabled e past))))
    (MarkedBy s rule why past) (alive past) (λ e there h. with_mark_one s rule why past e (by e) there h)
    (all_there (alive past) (alive_distinct o past l))
    (filter_found (λ e. not (marked e.ticket past) && (marked e.ticket (s ∷ past) && not (enabled e past))) (alive past) (alive_distinct o past l))

pub released_by_abort : (o : Opening) (rule : Rule) (past : List Step) → IsLawful o past
    → Each (λ e. is_some (task_of e.ticket (newly_marked (Step.Abort rule) past)) ≡ (waits (seen past e) && not (waits (with_mark rule reason.Aborted (seen past e))))) (alive past)
released_by_abort o rule past l = with_mark_each o (Step.Abort rule) rule reason.Aborted past l (λ e. refl)

pub released_by_reset : (o : Opening) (c : Code) (past : List Step) → IsLawful o past
    → Each (λ e. is_some (task_of e.ticket (newly_marked (Step.Reset c) past)) ≡ (waits (seen past e) && not (waits (with_mark rules.All reason.Reset (seen past e))))) (alive past)
released_by_reset o c past l = with_mark_each o (Step.Reset c) rules.All reason.Reset past l (λ e. refl)

parked_freed : (a b m : Bool) → (not m && (not a && b)) ≡ true → (not a && not m) ≡ true
parked_freed true b true h = cc
parked_freed true b false h = cc
parked_freed false b true h = cc
parked_freed false b false h = refl

parked_marked : (a b m : Bool) → (not m && (b && not a)) ≡ true → (not a && not m) ≡ true
parked_marked true true true h = cc
parked_marked true true false h = cc
parked_marked true false true h = cc
parked_marked true false false h = cc
parked_marked false b true h = cc
parked_marked false b false h = refl

freed_parked : (t : Ticket) (past : List Step) → Each (λ e. is_parked past e ≡ true) (newly_enabled t past)
freed_parked t past =
    let test = (λ (e : Entry). not (marked e.ticket past) && (not (enabled e past) && enabled e (Step.Leave t ∷ past))) in
    each_map (λ e. test e ≡ true) (λ e. is_parked past e ≡ true) (newly_enabled t past)
    (λ e h. parked_freed (enabled e past) (enabled e (Step.Leave t ∷ past)) (marked e.ticket past) h)
    (each_passes test (alive (Step.Leave t ∷ past)))

marked_parked : (s : Step) (past : List Step) → Each (λ e. is_parked past e ≡ true) (newly_marked s past)
marked_parked s past =
    let test = (λ (e : Entry). not (marked e.ticket past) && (marked e.ticket (s ∷ past) && not (enabled e past))) in
    each_map (λ e. test e ≡ true) (λ e. is_parked past e ≡ true) (newly_marked s past)
    (λ e h. parked_marked (enabled e past) (marked e.ticket (s ∷ past)) (marked e.ticket past) h)
    (each_passes test (alive past))

-- what a step hands out was parked
pub released_parked : (s : Step) (past : List Step) → Each (λ e. is_parked past e ≡ true) (released s past)
released_parked (Step.Leave t) past = freed_parked t past
released_parked (Step.Abort rule) past = marked_parked (Step.Abort rule) past
released_parked (Step.Reset c) past = marked_parked (Step.Reset c) past
released_parked (Step.Enter e) past = tt
released_parked (Step.Full t) past = tt
released_parked (Step.Resize blocks) past = tt
released_parked (Step.Commit t r) past = tt
released_parked (Step.Busy t) past = tt

still_none : (t u : Ticket) (es : List Entry) → task_of u es ≡ None → task_of u (without t es) ≡ None
still_none t u [] h = refl
still_none t u (x ∷ es) h =
    let k = other_head u x es h in
    elim (same_ticket x.ticket t) as (λ b. task_of u (cond b es (x ∷ without t es)) ≡ None) [
      | true ↦ k.1
      | false ↦ ap (λ b. cond b (Some x) (task_of u (without t es))) k.0 ∙ still_none t u es k.1
    ]

-- what isn't alive isn't handed out
pub none_released : (s : Step) (t : Ticket) (past : List Step) → task_of t (alive past) ≡ None → task_of t (released s past) ≡ None
none_released (Step.Leave u) t past h =
    filter_none (λ e. not (marked e.ticket past) && (not (enabled e past) && enabled e (Step.Leave u ∷ past))) t (alive (Step.Leave u ∷ past)) (still_none u t (alive past) h)
none_released (Step.Abort rule) t past h =
    filter_none (λ e. not (marked e.ticket past) && (marked e.ticket (Step.Abort rule ∷ past) && not (enabled e past))) t (alive past) h
none_released (Step.Reset c) t past h =
    filter_none (λ e. not (marked e.ticket past) && (marked e.ticket (Step.Reset c ∷ past) && not (enabled e past))) t (alive past) h
none_released (Step.Enter e) t past h = refl
none_released (Step.Full u) t past h = refl
none_released (Step.Resize blocks) t past h = refl
none_released (Step.Commit u r) t past h = refl
none_released (Step.Busy u) t past h = refl
