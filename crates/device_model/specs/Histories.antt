-- The histories of the units, as the transitions of a trace tell them.
use Rattle.std.specs.Prelude.{ℕ, ◌≡◌, ◌⊎◌, ◌==◌, List, [], ◌∷◌, Option, Some, None, if◌then◌else◌}
use Rattle.unit_model.specs.Steps.{Step}
use Rattle.unit_model.specs.Lawful.{IsLawful}
use Rattle.task_mgmt.specs.Functions.{step_by}
use Rattle.unit_model.specs.Unit.{PlainUnit}
use Rattle.device_model.specs.World.{PlainWorld, Everywhere}
use Rattle.device_model.specs.Transitions.{Transition}
use Rattle.device_model.specs.Event.Hard.{hard_code}
use Rattle.device_model.specs.Found.{UnitIs}

-- the step, where it is taken at this index
abbrev pub at_index : ℕ → ℕ → Step → Option Step
at_index unit_index k s = if k == unit_index then Some s else None

-- the step that a transition adds to the history of the unit of an index
abbrev pub step_of : ℕ → Transition → Option Step
step_of unit_index (Transition.Run x) = at_index unit_index x.unit (Step.Enter x.entry)
step_of unit_index (Transition.Park x) = at_index unit_index x.unit (Step.Enter x.entry)
step_of unit_index (Transition.EnterFull x) = at_index unit_index x.unit (Step.Full x.entry.ticket)
step_of unit_index (Transition.Commit k x r) = at_index unit_index x.unit (Step.Commit x.entry.ticket r)
step_of unit_index (Transition.Withhold k x r) = at_index unit_index x.unit (Step.Commit x.entry.ticket r)
step_of unit_index (Transition.CommitBusy k x) = at_index unit_index x.unit (Step.Busy x.entry.ticket)
step_of unit_index (Transition.Leave k i t jobs) = at_index unit_index i (Step.Leave t)
step_of unit_index (Transition.Mark t p m jobs) = at_index unit_index p.unit (step_by m)
step_of unit_index (Transition.Hard p jobs) = at_index unit_index p.unit (Step.Reset hard_code)
step_of unit_index (Transition.Resize k blocks) = at_index unit_index k (Step.Resize blocks)
step_of unit_index d = None

abbrev pub pushed : Option Step → List Step → List Step
pushed None h = h
pushed (Some s) h = s ∷ h

-- the history of the unit of an index
abbrev pub history_of : ℕ → List Transition → List Step
history_of unit_index [] = []
history_of unit_index (d ∷ past) = pushed (step_of unit_index d) (history_of unit_index past)

-- the step stands in the history, and of the steps before it P holds
abbrev pub StandsOn : Step → (List Step → Type 0) → List Step → Type 0
StandsOn s P [] = ⊥
StandsOn s P (r ∷ past) = ((r ≡ s) × P past) ⊎ StandsOn s P past

-- the step stands in the history
abbrev pub Stands : Step → List Step → Type 0
Stands s [] = ⊥
Stands s (r ∷ past) = (r ≡ s) ⊎ Stands s past

-- the unit opened as the device did, and has the history that the transitions tell
pub record IsToldOf (old : PlainWorld) (ds : List Transition) (unit_index : ℕ) (u : PlainUnit) : Type 0 where
  pub opened : PlainUnit
  pub there : UnitIs old unit_index opened
  pub opening : u.opening ≡ opened.opening
  pub steps : u.steps ≡ history_of unit_index ds

-- each unit's history is the lawful one that the transitions tell, and steps are taken on units that are there
pub record AreHistories (old : PlainWorld) (ds : List Transition) (w : PlainWorld) : Type 0 where
  pub told : Everywhere (IsToldOf old ds) w.units
  pub lawful : Everywhere (λ unit_index u. IsLawful u.opening u.steps) w.units
  pub there : (unit_index : ℕ) (s : Step) → Stands s (history_of unit_index ds) → (u : PlainUnit) × UnitIs w unit_index u
