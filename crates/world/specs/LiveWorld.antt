-- The device on a memory that its guest writes at any time. What stood there at one event tells nothing of what stands
-- there at the next; so a trace of its events has a write of the guest before the first of them and behind each.
use Rattle.std.specs.Prelude.{ℕ, ◌≡◌, ◌+◌, Bool, true, if◌then◌else◌, List, [], ◌∷◌, ◌++◌, length, map, false, take, Some, slice_get, Result, Ok, Err}
use Rattle.foundation.specs.declared.NoMemory.{NoMemory}
use Rattle.backed_store.specs.declared.disk.Disk.{Disk}
use Rattle.config.specs.Config.{is_config_for}
use Rattle.config.specs.declared.config.Config.{Config}
use Rattle.config.specs.declared.config.StartFault.{StartFault}
use Rattle.config.specs.declared.config.StartFault.TheVariants as start
use Rattle.ring_core.specs.Writes.{Write}
use Rattle.device_model.specs.World.{Opens}
use Rattle.device_model.specs.Events.{Event, plain_event}
use Rattle.device_model.specs.declared.event.Event as declared
use Rattle.device_model.specs.Happens.{Occurrence, Reached}
use Rattle.device_model.specs.Turns.{count_changes}
use Rattle.device_model.specs.Promise.{IsPromised}
use Rattle.device_model.specs.Live.{IsRefilled}
use Rattle.device_steps.specs.Apart.{PlainDevice, standing, TurnsInOrWants, FetchesOnce}
use Rattle.device_steps.specs.Opening.{IsOpeningApart, AreDisksFor, over_disks}
use Rattle.world.specs.Steps.{events_of}
use Rattle.device_steps.specs.Sound.{IsReached, IsSteady}

-- a memory, and the device without any
pub record PlainLive (X : Type 0) : Type 0 where
  pub memory : X
  pub device : PlainDevice

-- it is steady whichever bytes stand in a memory of this size
abbrev pub IsSteadyIn : Bool → ℕ → PlainDevice → Type 0
IsSteadyIn shared size d = (m : List ℕ) → length m ≡ size → IsSteady (standing shared m d)

-- Opening

-- it opens whichever bytes stand in a memory of this size
abbrev pub OpensIn : Bool → ℕ → PlainDevice → Type 0
OpensIn shared size d = (m : List ℕ) → length m ≡ size → Opens (standing shared m d)

-- the empty trace leads from it to itself, whichever bytes stand in a memory of this size
abbrev pub BeginsIn : Bool → ℕ → PlainDevice → Type 0
BeginsIn shared size d = (m : List ℕ) → length m ≡ size → Reached (standing shared m d) [] (standing shared m d)

-- a configuration is refused as such exactly where the device doesn't take it on a memory of this size
abbrev pub InRefusedAs : ℕ → Config → StartFault → Type 0
InRefusedAs size c start.BadConfig = is_config_for size c ≡ false
InRefusedAs size c start.NoMemory = is_config_for size c ≡ true

-- Disks

-- a device as it opens, but with these disks
pub record IsOpeningOverApart (size : ℕ) (c : Config) (disks : List Disk) (d : PlainDevice) : Type 0 where
  pub bare : PlainDevice
  pub opening : IsOpeningApart size c bare
  pub is : d ≡ record bare { units = over_disks bare.units disks }

-- on a memory of this size, the device of some configuration, of which nothing has happened yet, whose disks these may be
pub record OpensForIn (size : ℕ) (d : PlainDevice) (disks : List Disk) : Type 0 where
  pub config : Config
  pub taken : is_config_for size config ≡ true
  pub opening : IsOpeningApart size config d
  pub are : AreDisksFor config.units.items disks

-- of whichever configuration it was the device, now it is that over these disks
abbrev pub OpensAnewIn : ℕ → PlainDevice → List Disk → PlainDevice → Type 0
OpensAnewIn size old disks new = (c : Config) → IsOpeningApart size c old → IsOpeningOverApart size c disks new

-- a configuration with disks is refused as such exactly where the device doesn't take it on a memory of this size, or they
-- aren't its disks
abbrev pub OverRefusedIn : ℕ → Config → List Disk → StartFault → Type 0
OverRefusedIn size c disks start.BadConfig = is_config_for size c ≡ true → AreDisksFor c.units.items disks → ⊥
OverRefusedIn size c disks start.NoMemory = (is_config_for size c ≡ true) × AreDisksFor c.units.items disks

-- Laws

-- some trace reached it from an opening, whichever bytes stand in a memory of this size
abbrev pub IsReachedIn : Bool → ℕ → PlainDevice → Type 0
IsReachedIn shared size d = (m : List ℕ) → length m ≡ size → IsReached (standing shared m d)

-- What a call did

-- one event in a phase that began with it, or what it asks the host for was refused; a chain is fetched by one reading. Of
-- the memory it is said what a new phase has of it, what it may be, and what was stored
abbrev pub StepsLive : {X : Type 0} → Bool → (X → X → Type 0) → (X → List ℕ → Type 0) → (X → X → List Write → Type 0)
    → PlainLive X → Event → Result Bool NoMemory → PlainLive X → Type 0
StepsLive {X} shared begins may_be stored x e r y =
    (begun : X) × begins x.memory begun
    × TurnsInOrWants shared (may_be begun) (may_be y.memory) (stored x.memory y.memory) x.device e r y.device
    × FetchesOnce shared may_be (stored x.memory y.memory) begun x.device e r y.memory y.device

-- each of these events had its step, the newest first, and so many changed something
abbrev pub StepsEach : {X : Type 0} → (X → Event → Result Bool NoMemory → X → Type 0) → X → List Event → ℕ → X → Type 0
StepsEach {X} Does x [] count y = (y ≡ x) × (count ≡ 0)
StepsEach {X} Does x (e ∷ past) count y =
    (z : X) × (n : ℕ) × (changed : Bool) × StepsEach Does x past n z × Does z e (Ok changed) y
    × (count ≡ n + (if changed then 1 else 0))

-- all events; or those before one that memory was refused for
abbrev pub StepsAll : {X : Type 0} → (X → Event → Result Bool NoMemory → X → Type 0) → X → List declared.Event
    → Result ℕ NoMemory → X → Type 0
StepsAll {X} Does x events (Ok count) y = StepsEach Does x (events_of events) count y
StepsAll {X} Does x events (Err fault) y =
    (k : ℕ) × (e : declared.Event) × (count : ℕ) × (z : X) × (slice_get events k ≡ Some e)
    × StepsEach Does x (events_of (take k events)) count z × Does z (plain_event e) (Err fault) y

-- What it promises

-- With these bytes in memory before, and those behind: a trace of these events, with writes of the guest before the first
-- and behind each, goes on from the one device to the other, and so many of its actions changed something. Behind every
-- trace that reached the one from an opening it reaches the other, and the promise is kept by both together (the newest
-- event first)
pub record GoesOnFrom (shared : Bool) (d : PlainDevice) (events : List Event) (count : ℕ) (d' : PlainDevice)
    (a b : List ℕ) : Type 0 where
  pub more : List Occurrence
  pub told : map (λ (o : Occurrence). o.event) more ≡ events
  pub counted : count_changes more ≡ count
  pub full : List Occurrence
  pub refilled : IsRefilled more full
  pub reaches : (old : _) (past : List Occurrence) → Reached old past (standing shared a d)
      → Reached old (full ++ past) (standing shared b d')
  pub kept : (old : _) (past : List Occurrence) (r : Reached old past (standing shared a d))
      → IsPromised old (full ++ past) (standing shared b d') (reaches old past r)

-- whatever bytes stand in a memory of this size before and behind
abbrev pub GoesOnLive : Bool → ℕ → PlainDevice → List Event → ℕ → PlainDevice → Type 0
GoesOnLive shared size d events count d' =
    (a b : List ℕ) → length a ≡ size → length b ≡ size → GoesOnFrom shared d events count d' a b

-- one event, or memory was refused for it and nothing changed
abbrev pub StepsPromised : Bool → ℕ → PlainDevice → Event → Result Bool NoMemory → PlainDevice → Type 0
StepsPromised shared size d e (Ok changed) d' = GoesOnLive shared size d (e ∷ []) (if changed then 1 else 0) d'
StepsPromised shared size d e (Err fault) d' = d' ≡ d

-- all events; or those before one that memory was refused for, which changed nothing
abbrev pub RunsPromised : Bool → ℕ → PlainDevice → List declared.Event → Result ℕ NoMemory → PlainDevice → Type 0
RunsPromised shared size d events (Ok count) d' = GoesOnLive shared size d (events_of events) count d'
RunsPromised shared size d events (Err fault) d' =
    (k : ℕ) × (e : declared.Event) × (count : ℕ) × (slice_get events k ≡ Some e)
    × GoesOnLive shared size d (events_of (take k events)) count d'

-- What it stores

-- the writes of a trace in their order, of which the newest event stands first
abbrev pub writes_along : List Occurrence → List Write
writes_along [] = []
writes_along (o ∷ past) = writes_along past ++ o.action.writes

-- whatever bytes stand before and behind, the trace that is promised of these events made the very writes that were stored
abbrev pub StoresAlong : (List Write → Type 0) → Bool → ℕ → PlainDevice → List Event → ℕ → PlainDevice → Type 0
StoresAlong stored shared size d events count d' =
    (a b : List ℕ) → length a ≡ size → length b ≡ size
    → (on : GoesOnFrom shared d events count d' a b) × stored (writes_along on.more)

-- one event; where memory was refused for it, nothing was stored
abbrev pub StepStores : (List Write → Type 0) → Bool → ℕ → PlainDevice → Event → Result Bool NoMemory → PlainDevice → Type 0
StepStores stored shared size d e (Ok changed) d' = StoresAlong stored shared size d (e ∷ []) (if changed then 1 else 0) d'
StepStores stored shared size d e (Err fault) d' = stored []

-- all events; or those before one that memory was refused for
abbrev pub RunStores : (List Write → Type 0) → Bool → ℕ → PlainDevice → List declared.Event → Result ℕ NoMemory → PlainDevice
    → Type 0
RunStores stored shared size d events (Ok count) d' = StoresAlong stored shared size d (events_of events) count d'
RunStores stored shared size d events (Err fault) d' =
    (k : ℕ) × (e : declared.Event) × (count : ℕ) × (slice_get events k ≡ Some e)
    × StoresAlong stored shared size d (events_of (take k events)) count d'
