-- What a step hands out had entered.
use Rattle.std.proofs.Common.{◌≡◌, true, false, not, ◌&&◌, cond, List, [], ◌∷◌}
use Rattle.ring_core.specs.declared.log.Ticket.{Ticket}
use Rattle.unit_model.specs.Tasks.{Entry, same_ticket, without}
use Rattle.unit_model.specs.Steps.{Step, alive, has_entered}
use Rattle.unit_model.specs.Marks.{marked}
use Rattle.unit_model.specs.Enabling.{enabled, newly_enabled, newly_marked}
use Rattle.unit_model.proofs.Clearing.{Each, each_filter}
use Rattle.unit_model.proofs.Fewer.{all_entered}

abbrev HasEntered : List Step → Entry → Type 0
HasEntered h e = has_entered e.ticket h ≡ true

pub each_without : (P : Entry → Type 0) (t : Ticket) (es : List Entry) → Each P es → Each P (without t es)
each_without P t [] h = tt
each_without P t (e ∷ es) h = elim (same_ticket e.ticket t) as (λ b. Each P (cond b es (e ∷ without t es))) [ true ↦ h.1 | false ↦ (h.0, each_without P t es h.1) ]

pub enabled_entered : (t : Ticket) (h : List Step) → Each (λ e. has_entered e.ticket h ≡ true) (newly_enabled t h)
enabled_entered t h =
    each_filter (HasEntered h) (λ e. not (marked e.ticket h) && (not (enabled e h) && enabled e (Step.Leave t ∷ h))) (without t (alive h)) (each_without (HasEntered h) t (alive h) (all_entered h))

pub marked_entered : (s : Step) (h : List Step) → Each (λ e. has_entered e.ticket h ≡ true) (newly_marked s h)
marked_entered s h =
    each_filter (HasEntered h) (λ e. not (marked e.ticket h) && (marked e.ticket (s ∷ h) && not (enabled e h))) (alive h) (all_entered h)
