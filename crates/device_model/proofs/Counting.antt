-- A transition counts unless it is idle.
use Rattle.std.proofs.Common.{◌≡◌, true, false, refl, ap}
use Rattle.device_model.specs.Events.{Event}
use Rattle.device_model.specs.Transitions.{Transition, action_of}

abbrev pub IsIdle : Transition → Type 0
IsIdle d = (e : Event) × (d ≡ Transition.Idle e)

idle_only : true ≡ false → ⊥
idle_only h = cc

pub unchanged : (d : Transition) → (action_of d).changed ≡ false → IsIdle d
unchanged (Transition.Idle e) h = (e, refl)
unchanged (Transition.Poke x) h = absurd (idle_only h)
unchanged (Transition.UseBuffer f xs) h = absurd (idle_only h)
unchanged (Transition.Direct c o xs) h = absurd (idle_only h)
unchanged (Transition.Answer k x o xs) h = absurd (idle_only h)
unchanged (Transition.Respond c r xs) h = absurd (idle_only h)
unchanged (Transition.Give e c xs) h = absurd (idle_only h)
unchanged d h = absurd (idle_only h)

pub idle_unchanged : (d : Transition) → IsIdle d → (action_of d).changed ≡ false
idle_unchanged d h = ap (λ z. (action_of z).changed) h.1
