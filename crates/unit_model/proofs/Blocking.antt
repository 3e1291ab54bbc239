-- What blocks a task when another one joins at the end, and that a task stays enabled.
use Rattle.std.proofs.Common.{◌≡◌, Bool, true, false, not, ◌||◌, ◌&&◌, cond, List, [], ◌∷◌, ◌++◌, Some, refl, ◌∙◌, ap, is_some}
use Rattle.std.proofs.lemmas.List.Folds.{list_any-append}
use Rattle.ring_core.specs.declared.log.Ticket.{Ticket}
use Rattle.request_intake.specs.declared.attribute.TaskAttribute.{TaskAttribute}
use Rattle.request_intake.specs.declared.attribute.TaskAttribute.TheVariants.{Simple, Ordered, HeadOfQueue}
use Rattle.unit_model.specs.Tasks.{Entry, same_ticket, task_of, older, any_head_of_queue, any_ordered, any_task, blocks, is_blocked, is_head_of_queue}
use Rattle.unit_model.specs.Steps.{Step, alive, has_entered}
use Rattle.unit_model.specs.Enabling.{enabled}
use Rattle.unit_model.proofs.Tickets.{itself}
use Rattle.unit_model.proofs.Fresh.{fresh_disabled}

-- what joins behind the task is not older
older_found : (t : Ticket) (xs ys : List Entry) → is_some (task_of t xs) ≡ true → older t (xs ++ ys) ≡ older t xs
older_found t [] ys h = cc
older_found t (x ∷ xs) ys h =
    (elim (same_ticket x.ticket t) as (λ b. is_some (cond b (Some x) (task_of t xs)) ≡ true → cond b [] (x ∷ older t (xs ++ ys)) ≡ cond b [] (x ∷ older t xs)) [
      | true ↦ λ k. refl
      | false ↦ λ k. ap (λ w. x ∷ w) (older_found t xs ys k)
    ]) h

still : (a m b : Bool) → (a || b) ≡ true → ((a || m) || b) ≡ true
still true m b h = refl
still false true b h = refl
still false false b h = h

by_attribute : (a : TaskAttribute) (more : Bool) (before xs ys : List Entry) → any_head_of_queue ys ≡ (any_head_of_queue xs || more) → blocks a before xs ≡ true → blocks a before ys ≡ true
by_attribute HeadOfQueue more before xs ys e h = h
by_attribute Simple more before xs ys e h = ap (λ w. w || any_ordered before) e ∙ still (any_head_of_queue xs) more (any_ordered before) h
by_attribute Ordered more before xs ys e h = ap (λ w. w || any_task before) e ∙ still (any_head_of_queue xs) more (any_task before) h

-- a task that joins at the end unblocks none
pub blocked_more : (f : Entry) (xs ys : List Entry) → is_some (task_of f.ticket xs) ≡ true → is_blocked f xs ≡ true → is_blocked f (xs ++ ys) ≡ true
blocked_more f xs ys found h =
    ap (λ w. blocks f.attribute w (xs ++ ys)) (older_found f.ticket xs ys found)
    ∙ by_attribute f.attribute (any_head_of_queue ys) (older f.ticket xs) xs (xs ++ ys) (list_any-append (λ (e : Entry). is_head_of_queue e.attribute) xs ys) h

-- once enabled, enabled whatever follows
pub enabled_lasts : (e : Entry) (later past : List Step) → enabled e past ≡ true → enabled e (later ++ past) ≡ true
enabled_lasts e [] past h = h
enabled_lasts e (s ∷ later) past h =
    ap (λ b. b || (has_entered e.ticket (s ∷ (later ++ past)) && not (is_blocked e (alive (s ∷ (later ++ past)))))) (enabled_lasts e later past h)

-- a task that enters is enabled where the others don't block it
pub enabled_entering : (e : Entry) (past : List Step) → has_entered e.ticket past ≡ false → enabled e (Step.Enter e ∷ past) ≡ not (is_blocked e (alive (Step.Enter e ∷ past)))
enabled_entering e past n =
    ap (λ b. b || (has_entered e.ticket (Step.Enter e ∷ past) && not (is_blocked e (alive (Step.Enter e ∷ past))))) (fresh_disabled e past n)
    ∙ ap (λ b. (b || has_entered e.ticket past) && not (is_blocked e (alive (Step.Enter e ∷ past)))) (itself e.ticket)
