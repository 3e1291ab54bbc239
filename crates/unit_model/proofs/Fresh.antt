-- A task that never entered: it isn't alive, nor done, marked or enabled.
use Rattle.std.proofs.Common.{◌≡◌, ◌+◌, ◌≤◌, arith, subst, ◌&&◌, Bool, true, false, not, ◌||◌, eqb, cond, List, [], ◌∷◌, ◌++◌, Option, Some, None, refl, sym, ◌∙◌, ap}
use Rattle.std.specs.List.{AllByRecursion}
use Rattle.std.proofs.lemmas.Bool.{eqb-true}
use Rattle.ring_core.specs.declared.log.Ticket.{Ticket}
use Rattle.unit_model.specs.declared.rule.Rule.{Rule}
use Rattle.unit_model.specs.declared.rule.Rule.TheVariants as rules
use Rattle.unit_model.specs.declared.reason.Reason.TheVariants as reason
use Rattle.unit_model.specs.Tasks.{Entry, same_ticket, task_of, without, is_blocked}
use Rattle.unit_model.specs.Steps.{Step, alive, has_entered, next_number, done}
use Rattle.unit_model.specs.Marks.{meets_one, is_marked_by, first_mark, mark_of}
use Rattle.unit_model.specs.Enabling.{enabled}
use Rattle.unit_model.specs.Contents.{Opening}
use Rattle.unit_model.specs.Lawful.{IsLawful}
use Rattle.unit_model.proofs.Tickets.{same-true, left_off, right_off}

abbrev pub Others : Ticket → List Entry → Type 0
Others t es = AllByRecursion (λ (f : Entry). same_ticket f.ticket t ≡ false) es

others_push : (t : Ticket) (es : List Entry) (e : Entry) → same_ticket e.ticket t ≡ false → Others t es → Others t (es ++ e ∷ [])
others_push t [] e n h = (n, tt)
others_push t (x ∷ es) e n h = (h.0, others_push t es e n h.1)

others_without : (t u : Ticket) (es : List Entry) → Others t es → Others t (without u es)
others_without t u [] h = tt
others_without t u (e ∷ es) h =
    elim (same_ticket e.ticket u) as (λ b. Others t (cond b es (e ∷ without u es))) [ true ↦ h.1 | false ↦ (h.0, others_without t u es h.1) ]

pub fresh : (t : Ticket) (h : List Step) → has_entered t h ≡ false → Others t (alive h)
fresh t [] n = tt
fresh t (Step.Enter e ∷ past) n = others_push t (alive past) e (left_off (same_ticket e.ticket t) (has_entered t past) n) (fresh t past (right_off (same_ticket e.ticket t) (has_entered t past) n))
fresh t (Step.Full u ∷ past) n = fresh t past n
fresh t (Step.Resize blocks ∷ past) n = fresh t past n
fresh t (Step.Commit u r ∷ past) n = fresh t past n
fresh t (Step.Busy u ∷ past) n = fresh t past n
fresh t (Step.Reset c ∷ past) n = fresh t past n
fresh t (Step.Abort rule ∷ past) n = fresh t past n
fresh t (Step.Leave u ∷ past) n = others_without t u (alive past) (fresh t past n)

pub none_of : (t : Ticket) (es : List Entry) → Others t es → task_of t es ≡ None
none_of t [] h = refl
none_of t (e ∷ es) h = ap (λ b. cond b (Some e) (task_of t es)) h.0 ∙ none_of t es h.1

off_left : (a b : Bool) → a ≡ false → (a && b) ≡ false
off_left a b h = ap (λ c. c && b) h

-- a ticket whose number is below another's is another
number_apart : (u t : Ticket) → u.number + 1 ≤ t.number → same_ticket u t ≡ false
number_apart u t le = elim (same_ticket u t) as (λ b. (same_ticket u t ≡ b) → b ≡ false) [
  | true ↦ λ k. let same = ap (λ (z : Ticket). z.number) (same-true u t k) in absurd (omega (arith, same, le))
  | false ↦ λ k. refl
] refl

-- the next number of a queue after a step that takes a ticket
below : (u t : Ticket) (past : List Step) → (next_number u.queue past ≤ u.number)
    → cond (eqb u.queue t.queue) (u.number + 1) (next_number t.queue past) ≤ t.number
    → (same_ticket u t ≡ false) × (next_number t.queue past ≤ t.number)
below u t past may le =
    (elim (eqb u.queue t.queue) as (λ b. (eqb u.queue t.queue ≡ b) → cond b (u.number + 1) (next_number t.queue past) ≤ t.number → (same_ticket u t ≡ false) × (next_number t.queue past ≤ t.number)) [
      | true ↦ λ k q. (number_apart u t q, let m = subst (λ n. next_number n past ≤ u.number) (eqb-true u.queue t.queue k) may in omega (arith, m, q))
      | false ↦ λ k q. (off_left (eqb u.queue t.queue) (eqb u.number t.number) k, q)
    ]) refl le

-- at or above the next number of its queue a ticket never entered
pub above_fresh : (o : Opening) (t : Ticket) (h : List Step) → IsLawful o h → next_number t.queue h ≤ t.number
    → has_entered t h ≡ false
above_fresh o t [] l le = refl
above_fresh o t (Step.Enter e ∷ past) l le = let b = below e.ticket t past l.1.1 le in ap (λ c. c || has_entered t past) b.0 ∙ above_fresh o t past l.0 b.1
above_fresh o t (Step.Full u ∷ past) l le = let b = below u t past l.1.1 le in above_fresh o t past l.0 b.1
above_fresh o t (Step.Commit u r ∷ past) l le = above_fresh o t past l.0 le
above_fresh o t (Step.Busy u ∷ past) l le = above_fresh o t past l.0 le
above_fresh o t (Step.Abort rule ∷ past) l le = above_fresh o t past l.0 le
above_fresh o t (Step.Reset c ∷ past) l le = above_fresh o t past l.0 le
above_fresh o t (Step.Resize blocks ∷ past) l le = above_fresh o t past l.0 le
above_fresh o t (Step.Leave u ∷ past) l le = above_fresh o t past l.0 le

nothing : {X : Type 0} {x : X} → None ≡ Some x → ⊥
nothing e = cc

not_there : (t u : Ticket) (past : List Step) (e : Entry) → has_entered t past ≡ false → task_of u (alive past) ≡ Some e → same_ticket u t ≡ false
not_there t u past e n at =
    elim (same_ticket u t) as (λ b. (same_ticket u t ≡ b) → b ≡ false) [
      | true ↦ λ k. absurd (nothing (sym (none_of t (alive past) (fresh t past n)) ∙ ap (λ z. task_of z (alive past)) (sym (same-true u t k)) ∙ at))
      | false ↦ λ k. refl
    ] refl

pub fresh_undone : (o : Opening) (t : Ticket) (h : List Step) → IsLawful o h → has_entered t h ≡ false → done t h ≡ false
fresh_undone o t [] l n = refl
fresh_undone o t (Step.Enter e ∷ past) l n = fresh_undone o t past l.0 (right_off (same_ticket e.ticket t) (has_entered t past) n)
fresh_undone o t (Step.Full u ∷ past) l n = fresh_undone o t past l.0 n
fresh_undone o t (Step.Resize blocks ∷ past) l n = fresh_undone o t past l.0 n
fresh_undone o t (Step.Commit u r ∷ past) l n = ap (λ b. b || done t past) (not_there t u past l.1.0 n l.1.1.is_there) ∙ fresh_undone o t past l.0 n
fresh_undone o t (Step.Busy u ∷ past) l n = ap (λ b. b || done t past) (not_there t u past l.1.0 n l.1.1.is_there) ∙ fresh_undone o t past l.0 n
fresh_undone o t (Step.Abort rule ∷ past) l n = fresh_undone o t past l.0 n
fresh_undone o t (Step.Reset c ∷ past) l n = fresh_undone o t past l.0 n
fresh_undone o t (Step.Leave u ∷ past) l n = fresh_undone o t past l.0 n

unmarked_by : (rule : Rule) (t : Ticket) (past : List Step) → has_entered t past ≡ false → is_marked_by rule t past ≡ false
unmarked_by rule t past n = ap (λ (x : Option Entry). meets_one rule x && not (done t past)) (none_of t (alive past) (fresh t past n))

pub fresh_unmarked : (t : Ticket) (h : List Step) → has_entered t h ≡ false → mark_of t h ≡ None
fresh_unmarked t [] n = refl
fresh_unmarked t (Step.Enter e ∷ past) n = fresh_unmarked t past (right_off (same_ticket e.ticket t) (has_entered t past) n)
fresh_unmarked t (Step.Full u ∷ past) n = fresh_unmarked t past n
fresh_unmarked t (Step.Resize blocks ∷ past) n = fresh_unmarked t past n
fresh_unmarked t (Step.Commit u r ∷ past) n = fresh_unmarked t past n
fresh_unmarked t (Step.Busy u ∷ past) n = fresh_unmarked t past n
fresh_unmarked t (Step.Abort rule ∷ past) n =
    ap (λ m. first_mark m (is_marked_by rule t past) reason.Aborted) (fresh_unmarked t past n) ∙ ap (λ b. first_mark None b reason.Aborted) (unmarked_by rule t past n)
fresh_unmarked t (Step.Reset c ∷ past) n =
    ap (λ m. first_mark m (is_marked_by rules.All t past) reason.Reset) (fresh_unmarked t past n) ∙ ap (λ b. first_mark None b reason.Reset) (unmarked_by rules.All t past n)
fresh_unmarked t (Step.Leave u ∷ past) n = fresh_unmarked t past n

-- a step leaves what has not entered before it, where it has not after it
pub entered_before : (s : Step) (t : Ticket) (past : List Step) → has_entered t (s ∷ past) ≡ false → has_entered t past ≡ false
entered_before (Step.Enter e) t past n = right_off (same_ticket e.ticket t) (has_entered t past) n
entered_before (Step.Full u) t past n = n
entered_before (Step.Resize blocks) t past n = n
entered_before (Step.Commit u r) t past n = n
entered_before (Step.Busy u) t past n = n
entered_before (Step.Abort rule) t past n = n
entered_before (Step.Reset c) t past n = n
entered_before (Step.Leave u) t past n = n

pub fresh_disabled : (e : Entry) (h : List Step) → has_entered e.ticket h ≡ false → enabled e h ≡ false
fresh_disabled e [] n = refl
fresh_disabled e (s ∷ past) n =
    ap (λ b. b || (has_entered e.ticket (s ∷ past) && not (is_blocked e (alive (s ∷ past))))) (fresh_disabled e past (entered_before s e.ticket past n))
    ∙ ap (λ b. b && not (is_blocked e (alive (s ∷ past)))) n
