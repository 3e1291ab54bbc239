-- What the operator's reset of a unit does.
use Rattle.std.specs.Prelude.{ℕ, ◌≡◌, ◌<◌, ◌++◌, Bool, true, false, List, [], ◌∷◌, Result, Ok, Err}
use Rattle.scsi_codec.specs.declared.event_queue.Event.{Event as EventRecord}
use Rattle.request_intake.specs.Inventory.{PlainInventory}
use Rattle.unit_model.specs.Steps.{Step}
use Rattle.unit_model.specs.Jobs.{Jobs}
use Rattle.unit_model.specs.Unit.{PlainUnit}
use Rattle.device_model.specs.Addressed.{IsAddressed}
use Rattle.device_model.specs.Transitions.{Transition}
use Rattle.device_model.specs.Event.Hard.{hard_code, hard_report}
use Rattle.device_model.specs.Found.{handed_out}
use Rattle.phases.specs.DoingUnit.{DoesUnit, HasPlaces, with_more}
use Rattle.phases.specs.Units.{mark_at}
use Rattle.phases.specs.declared.resetting.ResetFault.{ResetFault}
use Rattle.phases.specs.declared.resetting.ResetFault.TheVariants as fault

-- nothing changed
pub record StaysReset (u : PlainUnit) (out : Jobs) (w : List EventRecord) (u' : PlainUnit) (out' : Jobs)
    (w' : List EventRecord) : Type 0 where
  pub unit : u' ≡ u
  pub jobs : out' ≡ out
  pub waiting : w' ≡ w

-- the unit at this index of the inventory is reset, its released jobs are appended, and the event waits; there is no room
-- for the jobs, or no event may name the unit's LUN; or it is another unit; or memory was refused
abbrev pub Resets : PlainInventory → ℕ → PlainUnit → Jobs → List EventRecord → Result Bool ResetFault → PlainUnit → Jobs
    → List EventRecord → Type 0
Resets inventory unit_index u out w (Ok true) u' out' w' =
    IsAddressed inventory unit_index u
    × DoesUnit (Transition.Hard (mark_at unit_index u) (handed_out u (Step.Reset hard_code))) u u'
    × (out' ≡ with_more (handed_out u (Step.Reset hard_code)) out) × (w' ≡ w ++ hard_report u ∷ [])
Resets inventory unit_index u out w (Ok false) u' out' w' =
    IsAddressed inventory unit_index u × StaysReset u out w u' out' w' × (HasPlaces out → u.opening.lun < 16384 → ⊥)
Resets inventory unit_index u out w (Err fault.WrongUnit) u' out' w' =
    (IsAddressed inventory unit_index u → ⊥) × StaysReset u out w u' out' w'
Resets inventory unit_index u out w (Err fault.NoMemory) u' out' w' =
    IsAddressed inventory unit_index u × StaysReset u out w u' out' w'
