-- What a task set keeps, found by ticket as the tasks are.
use Rattle.std.proofs.Common.{◌≡◌, true, false, cond, List, [], ◌∷◌, map, length, Option, Some, None, refl, sym, ◌∙◌, ap}
use Rattle.std.proofs.lemmas.List.{length-map}
use Rattle.std.specs.Option.{option_map}
use Rattle.ring_core.specs.declared.log.Ticket.{Ticket}
use Rattle.unit_model.specs.Tasks.{Entry, same_ticket, task_of, without}
use Rattle.unit_model.specs.Steps.{Step, alive}
use Rattle.unit_model.specs.Seen.{Seen, seen, tasks_of, entries, seen_at, others}

entries_map : (h : List Step) (es : List Entry) → entries (map (seen h) es) ≡ es
entries_map h [] = refl
entries_map h (e ∷ es) = ap (λ w. e ∷ w) (entries_map h es)

-- what is kept is kept of the tasks alive
pub entries_tasks : (h : List Step) → entries (tasks_of h) ≡ alive h
entries_tasks h = entries_map h (alive h)

pub length_tasks : (h : List Step) → length (tasks_of h) ≡ length (alive h)
length_tasks h = length-map (alive h) (seen h)

pub others_map : (t : Ticket) (h : List Step) (es : List Entry) → others t (map (seen h) es) ≡ map (seen h) (without t es)
others_map t h [] = refl
others_map t h (e ∷ es) =
    elim (same_ticket e.ticket t) as (λ b. cond b (map (seen h) es) (seen h e ∷ others t (map (seen h) es)) ≡ map (seen h) (cond b es (e ∷ without t es))) [
      | true ↦ refl
      | false ↦ ap (λ w. seen h e ∷ w) (others_map t h es)
    ]

pub others_tasks : (t : Ticket) (h : List Step) → entries (others t (tasks_of h)) ≡ without t (alive h)
others_tasks t h = ap entries (others_map t h (alive h)) ∙ entries_map h (without t (alive h))

seen_at_map : (t : Ticket) (h : List Step) (es : List Entry) → seen_at t (map (seen h) es) ≡ option_map (seen h) (task_of t es)
seen_at_map t h [] = refl
seen_at_map t h (e ∷ es) =
    elim (same_ticket e.ticket t) as (λ b. cond b (Some (seen h e)) (seen_at t (map (seen h) es)) ≡ option_map (seen h) (cond b (Some e) (task_of t es))) [
      | true ↦ refl
      | false ↦ seen_at_map t h es
    ]

pub seen_at_tasks : (t : Ticket) (h : List Step) → seen_at t (tasks_of h) ≡ option_map (seen h) (task_of t (alive h))
seen_at_tasks t h = seen_at_map t h (alive h)

-- what is kept of a task that is alive
pub seen_there : (t : Ticket) (h : List Step) (e : Entry) → task_of t (alive h) ≡ Some e → seen_at t (tasks_of h) ≡ Some (seen h e)
seen_there t h e k = seen_at_tasks t h ∙ ap (λ x. option_map (seen h) x) k

pub seen_none : (t : Ticket) (h : List Step) → task_of t (alive h) ≡ None → seen_at t (tasks_of h) ≡ None
seen_none t h k = seen_at_tasks t h ∙ ap (λ x. option_map (seen h) x) k

by_found : (h : List Step) (x : Option Entry) (s : Seen) → option_map (seen h) x ≡ Some s → (x ≡ Some s.entry) × (s ≡ seen h s.entry)
by_found h None s k = absurd (cc)
by_found h (Some e) s k =
    let same : seen h e ≡ s = cc in
    (ap (λ (w : Seen). Some w.entry) same, sym same ∙ ap (λ (w : Seen). seen h w.entry) same)

-- what is kept under a ticket is that of its task
pub seen_is : (t : Ticket) (h : List Step) (s : Seen) → seen_at t (tasks_of h) ≡ Some s → (task_of t (alive h) ≡ Some s.entry) × (s ≡ seen h s.entry)
seen_is t h s k = by_found h (task_of t (alive h)) s (sym (seen_at_tasks t h) ∙ k)
