-- Where a task is alive, one that is alive is not blocked.
use Rattle.std.proofs.Common.{◌≡◌, Bool, true, false, not, ◌||◌, cond, List, [], ◌∷◌, refl, ◌∙◌, ap}
use Rattle.std.specs.List.{list_any}
use Rattle.request_intake.specs.declared.attribute.TaskAttribute.{TaskAttribute}
use Rattle.request_intake.specs.declared.attribute.TaskAttribute.TheVariants.{Simple, Ordered, HeadOfQueue}
use Rattle.unit_model.specs.Tasks.{Entry, older, any_head_of_queue, any_task, blocks, is_blocked, is_head_of_queue}
use Rattle.unit_model.proofs.Tickets.{itself}

abbrev free : List Entry → Entry → Bool
free tasks e = not (is_blocked e tasks)

by_head : (a : TaskAttribute) (before tasks : List Entry) → is_head_of_queue a ≡ true → not (blocks a before tasks) ≡ true
by_head HeadOfQueue before tasks h = refl
by_head Simple before tasks h = cc
by_head Ordered before tasks h = cc

-- a HEAD OF QUEUE task is free
head_free : (tasks es : List Entry) → any_head_of_queue es ≡ true → list_any (free tasks) es ≡ true
head_free tasks [] h = h
head_free tasks (e ∷ es) h =
    (elim (is_head_of_queue e.attribute) as (λ b. (is_head_of_queue e.attribute ≡ b) → (b || any_head_of_queue es) ≡ true → (free tasks e || list_any (free tasks) es) ≡ true) [
      | true ↦ λ k q. ap (λ b. b || list_any (free tasks) es) (by_head e.attribute (older e.ticket tasks) tasks k)
      | false ↦ λ k q. elim (free tasks e) as (λ b. (b || list_any (free tasks) es) ≡ true) [ true ↦ refl | false ↦ head_free tasks es q ]
    ]) refl h

by_first : (a : TaskAttribute) (tasks : List Entry) → any_head_of_queue tasks ≡ false → not (blocks a [] tasks) ≡ true
by_first HeadOfQueue tasks h = refl
by_first Simple tasks h = ap (λ b. not (b || false)) h
by_first Ordered tasks h = ap (λ b. not (b || false)) h

-- with no HEAD OF QUEUE task the oldest is free
first_free : (e : Entry) (es : List Entry) → any_head_of_queue (e ∷ es) ≡ false → free (e ∷ es) e ≡ true
first_free e es h =
    ap (λ b. not (blocks e.attribute (cond b [] (e ∷ older e.ticket es)) (e ∷ es))) (itself e.ticket)
    ∙ by_first e.attribute (e ∷ es) h

pub some_free : (es : List Entry) → any_task es ≡ true → list_any (λ e. not (is_blocked e es)) es ≡ true
some_free [] h = h
some_free (e ∷ es) h =
    (elim (any_head_of_queue (e ∷ es)) as (λ b. (any_head_of_queue (e ∷ es) ≡ b) → list_any (free (e ∷ es)) (e ∷ es) ≡ true) [
      | true ↦ λ k. head_free (e ∷ es) (e ∷ es) k
      | false ↦ λ k. ap (λ b. b || list_any (free (e ∷ es)) es) (first_free e es k)
    ]) refl
