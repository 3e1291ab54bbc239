-- Each task that an Abort or a Reset met is done or was marked from then on.
use Rattle.std.proofs.Common.{◌≡◌, ℕ, Bool, true, false, not, ◌&&◌, ◌||◌, eqb, cond, is_some, List, [], ◌∷◌, length, Option, Some, None, refl, ◌∙◌, ap}
use Rattle.std.specs.List.{list_all}
use Rattle.ring_core.specs.declared.log.Ticket.{Ticket}
use Rattle.unit_model.specs.declared.rule.Rule.{Rule}
use Rattle.unit_model.specs.declared.rule.Rule.TheVariants as rules
use Rattle.unit_model.specs.declared.reason.Reason.{Reason}
use Rattle.unit_model.specs.declared.reason.Reason.TheVariants as reason
use Rattle.unit_model.specs.Tasks.{Entry, task_of, meets}
use Rattle.unit_model.specs.Steps.{Step, alive, is_alive, done}
use Rattle.unit_model.specs.Marks.{meets_one, is_marked_by, first_mark, mark_of, marked}
use Rattle.unit_model.specs.Clearing.{met_by, met_at, is_clear}
use Rattle.unit_model.specs.Contents.{Opening}
use Rattle.unit_model.specs.Lawful.{IsLawful}
use Rattle.unit_model.proofs.Tickets.{or_right}
use Rattle.unit_model.proofs.Clearing.{Each, each_map, each_filter}
use Rattle.unit_model.proofs.Distinct.{alive_distinct}
use Rattle.unit_model.proofs.Filtered.{each_passes}
use Rattle.unit_model.proofs.Keeping.{all_own}
use Rattle.unit_model.proofs.Marking.{done_on, marked_lasts}

-- the task of the ticket is done, or was marked
abbrev pub ended : Ticket → List Step → Bool
ended t h = done t h || marked t h

either : (a b c d : Bool) → (a ≡ true → c ≡ true) → (b ≡ true → d ≡ true) → (a || b) ≡ true → (c || d) ≡ true
either true b c d f g h = ap (λ x. x || d) (f refl)
either false b c d f g h = or_right c d (g h)

ended_on : (s : Step) (t : Ticket) (past : List Step) → ended t past ≡ true → ended t (s ∷ past) ≡ true
ended_on s t past h =
    either (done t past) (marked t past) (done t (s ∷ past)) (marked t (s ∷ past)) (done_on s t past)
    (marked_lasts t (s ∷ []) past) h

-- a mark stands, or is set now
set_now : (m : Option Reason) (b : Bool) (now : Reason) → b ≡ true → is_some (first_mark m b now) ≡ true
set_now (Some earlier) b now h = refl
set_now None b now h = ap (λ c. is_some (cond c (Some now) None)) h

-- a task that a rule meets is done, or is marked now
marked_now : (rule : Rule) (t : Ticket) (past : List Step) (e : Entry) (now : Reason) → task_of t (alive past) ≡ Some e
    → meets rule e ≡ true → (done t past || is_some (first_mark (mark_of t past) (is_marked_by rule t past) now)) ≡ true
marked_now rule t past e now at met =
    (elim (done t past) as (λ b. done t past ≡ b
    → (b || is_some (first_mark (mark_of t past) (meets_one rule (task_of t (alive past)) && not b) now)) ≡ true) [
      | true ↦ λ k. refl
      | false ↦ λ k.
          let on : (meets_one rule (task_of t (alive past)) && not false) ≡ true =
          ap (λ o. meets_one rule o && true) at ∙ ap (λ b. b && true) met in
          set_now (mark_of t past) (meets_one rule (task_of t (alive past)) && not false) now on
    ]) refl

abbrev Own : List Step → Entry → Type 0
Own past e = task_of e.ticket (alive past) ≡ Some e

each_marked : (rule : Rule) (s : Step) (now : Reason) (past : List Step) (es : List Entry)
    → ((t : Ticket) → ended t (s ∷ past)
    ≡ (done t past || is_some (first_mark (mark_of t past) (is_marked_by rule t past) now)))
    → Each (Own past) es → Each (λ e. meets rule e ≡ true) es → Each (λ e. ended e.ticket (s ∷ past) ≡ true) es
each_marked rule s now past [] is h m = tt
each_marked rule s now past (e ∷ es) is h m = (
  is e.ticket ∙ marked_now rule e.ticket past e now h.0 m.0,
  each_marked rule s now past es is h.1 m.1,
)

all_meet : (es : List Entry) → Each (λ e. meets rules.All e ≡ true) es
all_meet [] = tt
all_meet (e ∷ es) = (refl, all_meet es)

met_now : (o : Opening) (s : Step) (past : List Step) → IsLawful o past
    → Each (λ e. ended e.ticket (s ∷ past) ≡ true) (met_by s past)
met_now o (Step.Abort rule) past l =
    let own = all_own (alive past) (alive_distinct o past l) in
    each_marked rule (Step.Abort rule) reason.Aborted past (met_by (Step.Abort rule) past) (λ t. refl)
    (each_filter (Own past) (meets rule) (alive past) own) (each_passes (meets rule) (alive past))
met_now o (Step.Reset c) past l =
    let own = all_own (alive past) (alive_distinct o past l) in
    each_marked rules.All (Step.Reset c) reason.Reset past (alive past) (λ t. refl) own (all_meet (alive past))
met_now o (Step.Enter e) past l = tt
met_now o (Step.Full t) past l = tt
met_now o (Step.Commit t r) past l = tt
met_now o (Step.Busy t) past l = tt
met_now o (Step.Resize blocks) past l = tt
met_now o (Step.Leave t) past l = tt

pub met_ended : (o : Opening) (place : ℕ) (h : List Step) → IsLawful o h
    → Each (λ e. ended e.ticket h ≡ true) (met_at place h)
met_ended o place [] l = tt
met_ended o place (s ∷ past) l =
    elim (eqb (length past) place) as (λ b. Each (λ e. ended e.ticket (s ∷ past) ≡ true)
    (cond b (met_by s past) (met_at place past))) [
      | true ↦ met_now o s past l.0
      | false ↦
          each_map (λ e. ended e.ticket past ≡ true) (λ e. ended e.ticket (s ∷ past) ≡ true) (met_at place past)
          (λ e k. ended_on s e.ticket past k) (met_ended o place past l.0)
    ]

gone : (h : List Step) (es : List Entry) → ((t : Ticket) → ended t h ≡ true → task_of t (alive h) ≡ None)
    → Each (λ e. ended e.ticket h ≡ true) es → list_all (λ (e : Entry). not (is_alive e.ticket h)) es ≡ true
gone h [] f n = refl
gone h (e ∷ es) f n =
    let rest = list_all (λ (x : Entry). not (is_alive x.ticket h)) es in
    ap (λ o. not (is_some o) && rest) (f e.ticket n.0) ∙ gone h es f n.1

-- where no task is alive that is done or was marked, each place is clear
pub clear_there : (o : Opening) (place : ℕ) (h : List Step) → IsLawful o h
    → ((t : Ticket) → ended t h ≡ true → task_of t (alive h) ≡ None) → is_clear place h ≡ true
clear_there o place h l f = gone h (met_at place h) f (met_ended o place h l)
