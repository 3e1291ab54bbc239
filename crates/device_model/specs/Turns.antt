-- One event's turn: a transition of it is done, or none applies.
use Rattle.std.specs.Prelude.{ℕ, ◌≡◌, ◌+◌, Bool, true, false, if◌then◌else◌, List, [], ◌∷◌}
use Rattle.device_model.specs.World.{PlainWorld}
use Rattle.device_model.specs.Events.{Event}
use Rattle.device_model.specs.Transitions.{Transition, Action, event_of}
use Rattle.device_model.specs.After.{after}
use Rattle.device_model.specs.Happens.{Happens, WorldStep, Occurrence}
use Rattle.device_model.specs.Applies.{Applies}

-- one of the event's transitions was done, or the event doesn't apply and nothing changed
abbrev pub Turns : PlainWorld → Event → Bool → PlainWorld → Type 0
Turns w e true w' = (d : Transition) × (event_of d ≡ e) × Happens d w × (w' ≡ after d w)
Turns w e false w' = (w' ≡ w) × (Applies w e → ⊥)

-- a step of the device by an event, whose action says whether something changed
pub record IsStep (w : PlainWorld) (e : Event) (changed : Bool) (w' : PlainWorld) : Type 0 where
  pub action : Action
  pub step : WorldStep w e action w'
  pub told : action.changed ≡ changed

-- how many actions of a trace changed something
abbrev pub count_changes : List Occurrence → ℕ
count_changes [] = 0
count_changes (o ∷ past) = (if o.action.changed then 1 else 0) + count_changes past
