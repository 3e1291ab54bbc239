-- What the calls of a device on live memory do: each what the device's own call of that name does, told by an answer.
use Rattle.std.specs.Prelude.{ℕ, ◌≡◌, ◌≤◌, ◌<◌, ◌^◌, ◌∷◌, ◌++◌, bit_and, Bool, true, false, List, length, replicate, Option, Some, None, slice_get, Ok, Err}
use Rattle.foundation.specs.declared.NoMemory.{NoMemory}
use Rattle.unit_model.specs.Contents.{is_capacity}
use Rattle.ring_core.specs.Writes.{Write}
use Rattle.ring_core.specs.declared.asking.Notify.{Notify}
use Rattle.ring_core.specs.declared.asking.Notify.TheVariants.{Next, Never}
use Rattle.ring_core.specs.declared.fault.RingFault.{RingFault}
use Rattle.device_model.specs.Events.{Event}
use Rattle.device_model.specs.World.{PlainQueue}
use Rattle.config.specs.Config.{is_config_for}
use Rattle.config.specs.ConfigFault.{IsFaultFor}
use Rattle.config.specs.declared.config.Config.{Config}
use Rattle.config.specs.declared.config_fault.ConfigFault.{ConfigFault}
use Rattle.host_bus.specs.Map.{map_of}
use Rattle.host_bus.specs.declared.HostBus.{HostBus}
use Rattle.live_mem.specs.Access.{Access}
use Rattle.live_mem.specs.Heard.{heard}
use Rattle.live_mem.specs.Live.{MayBeLive, bus_of, stored_live}
use Rattle.live_mem.specs.declared.live.LiveMem.{LiveMem}
use Rattle.device_steps.specs.Apart.{PlainDevice, Stored}
use Rattle.device_steps.specs.Asking.{asking_at}
use Rattle.world.specs.Asking.{AsksLive as AsksDriverLive, AsksPromised}
use Rattle.world.specs.LiveServing.{ServesLiveOrWants, ServesPromised, ServeStores}
use Rattle.device_steps.specs.Settling.{asks}
use Rattle.world.specs.declared.served.Served.{Served as Portion}
use Rattle.device_steps.specs.Opening.{IsOpeningApart}
use Rattle.world.specs.LiveWorld.{PlainLive, OpensIn, BeginsIn, StepsPromised}
use Rattle.world.specs.Notifications.{binary, owed_of, IsAsked}
use Rattle.device_steps.specs.Views.{unit_of, IsIndexAmong, fault_of, status_of}
use Rattle.c_calls.specs.Calls.{number_of, HasCapacity, GivesBlocks, plain_cause, cause_of}
use Rattle.c_calls.specs.Changes.{TellsOf}
use Rattle.c_calls.specs.Counts.{TellsCountsOf}
use Rattle.c_calls.specs.Position.{TellsPositionOf}
use Rattle.c_calls.specs.declared.answer.Answer.{Answer}
use Rattle.c_calls.specs.declared.answer.Answer.TheVariants as answer
use Rattle.c_calls.specs.declared.counts.UnitCounts.{UnitCounts}
use Rattle.c_calls.specs.declared.live_served.LiveServed.{LiveServed}
use Rattle.c_calls.specs.declared.ranges.BlockRange.{BlockRange}
use Rattle.c_calls.specs.declared.ranges.Told.{Told}
use Rattle.c_calls.specs.declared.live_wanted.RingPosition.{RingPosition}
use Rattle.c_calls.specs.declared.live_wanted.WantedRing.{WantedRing}
use Rattle.c_calls.specs.declared.wanted.Fault.{Fault}
use Rattle.c_calls.specs.declared.wanted.WantedUnit.{WantedUnit}
use Rattle.c_calls.specs.declared.region.Region.{Region}
use Rattle.c_calls.specs.LiveWanted.{AsksLive}
use Rattle.c_calls.specs.Mapped.{opening_rings, MapsRings}

-- how many bytes a guest can address
abbrev pub all_bytes : ℕ
all_bytes = 2 ^ 52

-- where there is a device, this is done with it; else nothing is, and what the caller lent is as it was
abbrev pub ServingLive : (LiveServed → Answer → LiveServed → Type 0) → Type 0 → Option LiveServed → Answer → Option LiveServed
    → Type 0
ServingLive R Same None a after = (a ≡ answer.NoDevice) × (after ≡ None) × Same
ServingLive R Same (Some d) a after = (d' : LiveServed) × (after ≡ Some d') × R d a d'

-- what the host was told, and which queues are mapped, are as they were
abbrev pub KeepsRest : LiveServed → LiveServed → Type 0
KeepsRest d d' = (d'.told ≡ d.told) × (d'.rings ≡ d.rings)

-- those queues are mapped that lie in these regions
abbrev pub Maps : List Region → LiveServed → Answer → LiveServed → Type 0
Maps regions d a d' =
    (a ≡ answer.Done) × (d'.world ≡ d.world) × (d'.told ≡ d.told) × MapsRings regions d.rings d'.rings

-- a phase begins: the host's bus is asked for nothing else before
abbrev pub begins_live : LiveMem HostBus → LiveMem HostBus → Type 0
begins_live x y = heard y.bus ≡ Access.Begins ∷ heard x.bus

-- the host's bus was asked to store these writes, in this order
abbrev pub stores_live : LiveMem HostBus → LiveMem HostBus → List Write → Type 0
stores_live = Stored stored_live (λ ss more. ss ++ more)

-- what a driver is asked for
abbrev pub notify_of : Bool → Notify
notify_of true = Next
notify_of false = Never

-- what is written, to ask a driver; nothing where its queue isn't mapped
abbrev pub write_where : Bool → Option Write → Option Write
write_where true write = write
write_where false write = None

-- as `LiveWorld::ask`
abbrev pub AsksApart : Option Write → PlainLive (LiveMem HostBus) → PlainLive (LiveMem HostBus) → Type 0
AsksApart write x y = (asked : Bool) × AsksDriverLive true begins_live MayBeLive stores_live x write asked y
    × AsksPromised true x.memory.size x.device write y.device

abbrev pub AsksDriver : ℕ → Bool → LiveServed → Answer → LiveServed → Type 0
AsksDriver queue notify d answer.Done d' = (queue < length d.world.device.queues)
    × AsksApart (write_where (asks d.rings.mapped queue) (asking_at d.world.device.queues queue (notify_of notify))) d.world d'.world
    × KeepsRest d d'
AsksDriver queue notify d answer.NoQueue d' = (length d.world.device.queues ≤ queue) × (d' ≡ d)
AsksDriver queue notify d a d' = ⊥

-- as `LiveWorld::serve`; of what was served before memory was refused nothing is told
abbrev pub ServesApart : ℕ → ℕ → PlainLive (LiveMem HostBus) → Portion → Answer → Portion → PlainLive (LiveMem HostBus) → Type 0
ServesApart queues most x old answer.Done new y =
    ServesLiveOrWants true begins_live MayBeLive stores_live (asks queues) x most (Ok new) y
    × ServesPromised (asks queues) true x.memory.size x.device (Ok new) y.device
    × ServeStores (stores_live x.memory y.memory) (asks queues) true x.memory.size x.device (Ok new) y.device
ServesApart queues most x old answer.NoMemory new y =
    (e : NoMemory) × ServesLiveOrWants true begins_live MayBeLive stores_live (asks queues) x most (Err e) y
    × ServesPromised (asks queues) true x.memory.size x.device (Err e) y.device
    × ServeStores (stores_live x.memory y.memory) (asks queues) true x.memory.size x.device (Err e) y.device × (new ≡ old)
ServesApart queues most x old a new y = ⊥

-- of those queues that are mapped
abbrev pub ServesPortion : ℕ → ℕ → ℕ → Bool → ℕ → Bool → LiveServed → Answer → LiveServed → Type 0
ServesPortion queues most steps more steps' more' d a d' =
    ServesApart (bit_and queues d.rings.mapped) most d.world (record { steps = steps; more = more }) a
    (record { steps = steps'; more = more' }) d'.world
    × KeepsRest d d'

-- as `Notifications::owed_in`
pub record Owes (bits : ℕ) (d : LiveServed) (a : Answer) (d' : LiveServed) : Type 0 where
  pub done : a ≡ answer.Done
  pub owed : bits ≡ binary (owed_of d.told d.world.device.queues)
  pub asked : IsAsked d.told d.world.device.queues d'.told
  pub same : d'.world ≡ d.world
  pub rings : d'.rings ≡ d.rings

-- as `LiveWorld::status`
abbrev pub IsStatus : ℕ → LiveServed → Answer → LiveServed → Type 0
IsStatus status d a d' = (a ≡ answer.Done) × (status ≡ status_of d.world.device.queues) × (d' ≡ d)

-- the number of a fault of a ring; without one that of a queue that isn't mapped, and 0 of one that is
abbrev pub number_or_unmapped : Option RingFault → Bool → ℕ
number_or_unmapped (Some fault) mapped = number_of (Some fault)
number_or_unmapped None true = 0
number_or_unmapped None false = 11

-- as `LiveWorld::broken`
abbrev pub BrokenOrUnmapped : List PlainQueue → ℕ → ℕ → ℕ → Answer → ℕ → Type 0
BrokenOrUnmapped queues mapped queue old answer.Done new = (queue < length queues)
    × (new ≡ number_or_unmapped (fault_of (slice_get queues queue)) (asks mapped queue))
BrokenOrUnmapped queues mapped queue old answer.NoQueue new = (length queues ≤ queue) × (new ≡ old)
BrokenOrUnmapped queues mapped queue old a new = ⊥

abbrev pub Breaks : ℕ → ℕ → ℕ → LiveServed → Answer → LiveServed → Type 0
Breaks queue old new d a d' = BrokenOrUnmapped d.world.device.queues d.rings.mapped queue old a new × (d' ≡ d)

-- as `LiveWorld::step` of a hard reset of the unit of an address: behind every trace that led to the device, whatever stands in
-- memory, a trace of this event goes on to what it is then
abbrev pub ResetsApart : ℕ → PlainDevice → ℕ → ℕ → Answer → PlainDevice → Type 0
ResetsApart size d target lun answer.Done d' = (unit_index : ℕ) × (changed : _) × IsIndexAmong d.units target lun (Some unit_index)
    × StepsPromised true size d (Event.Hard unit_index) (Ok changed) d'
ResetsApart size d target lun answer.NoMemory d' = (unit_index : ℕ) × (x : NoMemory) × IsIndexAmong d.units target lun (Some unit_index)
    × StepsPromised true size d (Event.Hard unit_index) (Err x) d'
ResetsApart size d target lun answer.NoUnit d' = IsIndexAmong d.units target lun None × (d' ≡ d)
ResetsApart size d target lun a d' = ⊥

abbrev pub Resets : ℕ → ℕ → LiveServed → Answer → LiveServed → Type 0
Resets target lun d a d' = ResetsApart d.world.memory.size d.world.device target lun a d'.world.device × KeepsRest d d'

-- of a resize, to a capacity that a unit may have
abbrev pub ResizesApart : ℕ → PlainDevice → ℕ → ℕ → ℕ → Answer → PlainDevice → Type 0
ResizesApart size d target lun blocks answer.BadCapacity d' = (is_capacity blocks ≡ false) × (d' ≡ d)
ResizesApart size d target lun blocks answer.Done d' = (unit_index : ℕ) × (changed : _) × (is_capacity blocks ≡ true)
    × IsIndexAmong d.units target lun (Some unit_index) × StepsPromised true size d (Event.Resize unit_index blocks) (Ok changed) d'
ResizesApart size d target lun blocks answer.NoMemory d' = (unit_index : ℕ) × (x : NoMemory) × (is_capacity blocks ≡ true)
    × IsIndexAmong d.units target lun (Some unit_index) × StepsPromised true size d (Event.Resize unit_index blocks) (Err x) d'
ResizesApart size d target lun blocks answer.NoUnit d' = (is_capacity blocks ≡ true) × IsIndexAmong d.units target lun None × (d' ≡ d)
ResizesApart size d target lun blocks a d' = ⊥

abbrev pub Resizes : ℕ → ℕ → ℕ → LiveServed → Answer → LiveServed → Type 0
Resizes target lun blocks d a d' =
    ResizesApart d.world.memory.size d.world.device target lun blocks a d'.world.device × KeepsRest d d'

-- as `LiveWorld::capacity`
abbrev pub Holds : ℕ → ℕ → ℕ → ℕ → LiveServed → Answer → LiveServed → Type 0
Holds target lun old new d a d' = HasCapacity (unit_of d.world.device.units target lun) old a new × (d' ≡ d)

-- as `LiveWorld::read_blocks`
abbrev pub Gives : ℕ → ℕ → ℕ → ℕ → List ℕ → List ℕ → LiveServed → Answer → LiveServed → Type 0
Gives target lun first count old new d a d' = GivesBlocks (unit_of d.world.device.units target lun) first count old a new × (d' ≡ d)

-- as `UnitState::counts`
abbrev pub TellsCounts : ℕ → ℕ → UnitCounts → UnitCounts → LiveServed → Answer → LiveServed → Type 0
TellsCounts target lun old new d a d' = TellsCountsOf (unit_of d.world.device.units target lun) old a new × (d' ≡ d)

-- as `LiveWorld::position`
abbrev pub TellsPosition : ℕ → RingPosition → RingPosition → LiveServed → Answer → LiveServed → Type 0
TellsPosition queue old new d a d' = TellsPositionOf (slice_get d.world.device.queues queue) old a new × (d' ≡ d)

-- as `LiveWorld::take_changes`
abbrev pub TellsChanges : ℕ → ℕ → Told → List BlockRange → Told → List BlockRange → LiveServed → Answer → LiveServed → Type 0
TellsChanges target lun old ranges new ranges' d a d' =
    TellsOf (unit_of d.world.device.units target lun) old ranges a new ranges' × (d' ≡ d)

-- the device of a configuration that is taken on all that a guest can address, over what C mapped by this number. Nobody was
-- told anything of it, and none of its queues is mapped
pub record MakesLive (host_map : ℕ) (c : Config) (d : LiveServed) : Type 0 where
  pub over : map_of (bus_of d.world.memory) ≡ host_map
  pub taken : is_config_for all_bytes c ≡ true
  pub size : d.world.memory.size ≡ all_bytes
  pub opening : IsOpeningApart all_bytes c d.world.device
  pub opens : OpensIn true all_bytes d.world.device
  pub reaches : BeginsIn true all_bytes d.world.device
  pub told : d.told ≡ replicate 18 0
  pub rings : d.rings ≡ opening_rings c

-- why a configuration isn't taken
pub record RefusesLive (c : Config) (told : Fault) : Type 0 where
  pub refused : is_config_for all_bytes c ≡ false
  pub fault : ConfigFault
  pub is : IsFaultFor all_bytes c fault
  pub named : plain_cause told ≡ cause_of fault

-- as `LiveWorld::new`; only why a configuration isn't taken is told
abbrev pub CreatesLiveOf : ℕ → ℕ → List WantedRing → List WantedUnit → Fault → Answer → Fault → Option LiveServed → Type 0
CreatesLiveOf host_map features rings units old answer.Done told after =
    (c : Config) × (d : LiveServed) × AsksLive features rings units c × MakesLive host_map c d × (after ≡ Some d) × (told ≡ old)
CreatesLiveOf host_map features rings units old answer.BadConfig told after =
    (c : Config) × AsksLive features rings units c × RefusesLive c told × (after ≡ None)
CreatesLiveOf host_map features rings units old answer.NoMemory told after = (after ≡ None) × (told ≡ old)
CreatesLiveOf host_map features rings units old a told after = ⊥

abbrev pub CreatesLive : ℕ → ℕ → List WantedRing → List WantedUnit → Fault → Fault → Option LiveServed → Answer
    → Option LiveServed → Type 0
CreatesLive host_map features rings units old told None a after = CreatesLiveOf host_map features rings units old a told after
CreatesLive host_map features rings units old told (Some d) a after = (a ≡ answer.InUse) × (after ≡ Some d) × (told ≡ old)

abbrev pub DestroysLive : Option LiveServed → Answer → Option LiveServed → Type 0
DestroysLive None a after = (a ≡ answer.NoDevice) × (after ≡ None)
DestroysLive (Some d) a after = (a ≡ answer.Done) × (after ≡ None)
