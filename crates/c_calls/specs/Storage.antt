-- What the calls do by which a host has the storage of backed disks: each what the device's own call does, told by an answer.
use Rattle.std.specs.Prelude.{ℕ, ◌≡◌, ◌≢◌, ◌⊎◌, ◌+◌, Bool, true, false, List, length, IsTrue, Option, Some, None, Ok, Err, ⊤}
use Rattle.foundation.specs.declared.NoMemory.{NoMemory}
use Rattle.block_store.specs.Storage.{Dealing}
use Rattle.device_model.specs.Events.{Event}
use Rattle.unit_model.specs.Unit.{PlainUnit}
use Rattle.device_steps.specs.Apart.{PlainDevice}
use Rattle.device_steps.specs.Paging.{HasPage, IsKeptPage}
use Rattle.device_steps.specs.Views.{IsIndexAmong}
use Rattle.world.specs.LiveWorld.{StepsPromised}
use Rattle.world.specs.Paging.{DealsPromised}
use Rattle.c_calls.specs.Live.{KeepsRest}
use Rattle.c_calls.specs.declared.answer.Answer.{Answer}
use Rattle.c_calls.specs.declared.answer.Answer.TheVariants as answer
use Rattle.c_calls.specs.declared.live_served.LiveServed.{LiveServed}

-- own: what the host owes: the bytes are those that the storage of the unit of an address kept of a page last, as the host said,
-- or had at the opening
abbrev pub OwesPage : ℕ → ℕ → ℕ → List ℕ → Option LiveServed → Type 0
OwesPage target lun page bytes None = ⊤
OwesPage target lun page bytes (Some d) =
    (unit_index : ℕ) → IsIndexAmong d.world.device.units target lun (Some unit_index) → IsKeptPage d.world.device.units unit_index page bytes

-- a page of the unit's backed disk is told, or none
abbrev pub FindsPage : List PlainUnit → ℕ → ℕ → ℕ → Bool → Type 0
FindsPage units unit_index old page true = HasPage units unit_index page
FindsPage units unit_index old page false = page ≡ old

-- as `LiveWorld::next_wanted`: the device is as it was
abbrev pub WantsPage : ℕ → ℕ → ℕ → Bool → ℕ → Bool → LiveServed → Answer → LiveServed → Type 0
WantsPage target lun page found page' found' d answer.Done d' = (unit_index : ℕ)
    × IsIndexAmong d.world.device.units target lun (Some unit_index)
    × FindsPage d.world.device.units unit_index page page' found' × (d' ≡ d)
WantsPage target lun page found page' found' d answer.NoUnit d' = IsIndexAmong d.world.device.units target lun None
    × (page' ≡ page) × (found' ≡ found) × (d' ≡ d)
WantsPage target lun page found page' found' d a d' = ⊥

-- as `LiveWorld::load_failed`
abbrev pub FailsPage : ℕ → ℕ → LiveServed → Answer → LiveServed → Type 0
FailsPage target lun d answer.Done d' = d' ≡ d
FailsPage target lun d answer.NoUnit d' = IsIndexAmong d.world.device.units target lun None × (d' ≡ d)
FailsPage target lun d a d' = ⊥

-- the host dealt so with the storage of the unit of an address, as the promise has it, and nothing else changed
pub record Deals (target lun : ℕ) (x : Dealing) (d d' : LiveServed) : Type 0 where
  pub unit_index : ℕ
  pub there : IsIndexAmong d.world.device.units target lun (Some unit_index)
  pub dealt : DealsPromised true d.world.memory.size d.world.device unit_index x d'.world.device
  pub memory : d'.world.memory ≡ d.world.memory
  pub rest : KeepsRest d d'

-- as `LiveWorld::load`: the host handed in the page, or nothing changed; before all else the bytes are measured
abbrev pub LoadsPage : ℕ → ℕ → ℕ → List ℕ → LiveServed → Answer → LiveServed → Type 0
LoadsPage target lun page bytes d answer.BadLength d' = (length bytes ≢ 4096) × (d' ≡ d)
LoadsPage target lun page bytes d answer.NoUnit d' = (length bytes ≡ 4096) × IsIndexAmong d.world.device.units target lun None
    × (d' ≡ d)
LoadsPage target lun page bytes d answer.Done d' = (length bytes ≡ 4096)
    × (Deals target lun (Dealing.Load page) d d' ⊎ (d' ≡ d))
LoadsPage target lun page bytes d answer.NoMemory d' = (length bytes ≡ 4096) × (d' ≡ d)
LoadsPage target lun page bytes d a d' = ⊥

-- as `LiveWorld::lost`: the host can't read the page, or nothing changed
abbrev pub LosesPage : ℕ → ℕ → ℕ → LiveServed → Answer → LiveServed → Type 0
LosesPage target lun page d answer.Done d' = Deals target lun (Dealing.Lose page) d d' ⊎ (d' ≡ d)
LosesPage target lun page d answer.NoUnit d' = IsIndexAmong d.world.device.units target lun None × (d' ≡ d)
LosesPage target lun page d a d' = ⊥

-- as `LiveWorld::give`: a page is given, with its bytes as they are now, or none is left to give; before all else the room is
-- measured
abbrev pub GivesFound : ℕ → ℕ → ℕ → List ℕ → ℕ → List ℕ → Bool → LiveServed → LiveServed → Type 0
GivesFound target lun page old page' bytes true d d' = Deals target lun (Dealing.Give page' bytes) d d'
GivesFound target lun page old page' bytes false d d' = (page' ≡ page) × (bytes ≡ old) × (d' ≡ d)

abbrev pub GivesPage : ℕ → ℕ → ℕ → List ℕ → Bool → ℕ → List ℕ → Bool → LiveServed → Answer → LiveServed → Type 0
GivesPage target lun page old found page' bytes found' d answer.Done d' = (length old ≡ 4096)
    × GivesFound target lun page old page' bytes found' d d'
GivesPage target lun page old found page' bytes found' d answer.BadLength d' = (length old ≢ 4096)
    × (page' ≡ page) × (bytes ≡ old) × (found' ≡ found) × (d' ≡ d)
GivesPage target lun page old found page' bytes found' d answer.NoUnit d' = (length old ≡ 4096)
    × IsIndexAmong d.world.device.units target lun None × (page' ≡ page) × (bytes ≡ old) × (found' ≡ found) × (d' ≡ d)
GivesPage target lun page old found page' bytes found' d answer.NoMemory d' = (length old ≡ 4096)
    × (page' ≡ page) × (bytes ≡ old) × (found' ≡ found) × (d' ≡ d)
GivesPage target lun page old found page' bytes found' d a d' = ⊥

-- as `LiveWorld::written`: the storage has the page as it was given, if the host said so; else nothing changed
abbrev pub KeepsPage : ℕ → ℕ → ℕ → Bool → LiveServed → Answer → LiveServed → Type 0
KeepsPage target lun page kept d answer.Done d' = (IsTrue kept × Deals target lun (Dealing.Keep page) d d') ⊎ (d' ≡ d)
KeepsPage target lun page kept d answer.NoUnit d' = IsIndexAmong d.world.device.units target lun None × (d' ≡ d)
KeepsPage target lun page kept d answer.NoMemory d' = d' ≡ d
KeepsPage target lun page kept d a d' = ⊥

-- as `LiveWorld::denied`: the host can't write the page, or nothing changed
abbrev pub DeniesPage : ℕ → ℕ → ℕ → LiveServed → Answer → LiveServed → Type 0
DeniesPage target lun page d answer.Done d' = Deals target lun (Dealing.Deny page) d d' ⊎ (d' ≡ d)
DeniesPage target lun page d answer.NoUnit d' = IsIndexAmong d.world.device.units target lun None × (d' ≡ d)
DeniesPage target lun page d answer.NoMemory d' = d' ≡ d
DeniesPage target lun page d a d' = ⊥

-- as `LiveWorld::step` of a Wake, and `LiveWorld::waiting` before it
abbrev pub Wakes : ℕ → ℕ → LiveServed → Answer → LiveServed → Type 0
Wakes old waiting d answer.Done d' = (waiting ≡ length d.world.device.aside + length d.world.device.woken)
    × (changed : Bool) × StepsPromised true d.world.memory.size d.world.device Event.Wake (Ok changed) d'.world.device × KeepsRest d d'
Wakes old waiting d answer.NoMemory d' = (waiting ≡ old)
    × (x : NoMemory) × StepsPromised true d.world.memory.size d.world.device Event.Wake (Err x) d'.world.device × KeepsRest d d'
Wakes old waiting d a d' = ⊥
