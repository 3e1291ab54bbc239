-- What the calls do: each what the device's own call of that name does, told by an answer.
use Rattle.std.specs.Prelude.{ℕ, ◌≡◌, ◌≢◌, ◌≤◌, ◌<◌, ◌+◌, ◌*◌, Bool, true, false, List, [], length, replicate, Option, Some, None, slice_get, Ok, Err}
use Rattle.block_store.specs.Blocks.{run}
use Rattle.foundation.specs.declared.NoMemory.{NoMemory}
use Rattle.ring_core.specs.declared.fault.RingFault.{RingFault}
use Rattle.ring_core.specs.declared.fault.RingFault.TheVariants as ring
use Rattle.guest_mem.specs.Memory.{LiesIn, bytes_at}
use Rattle.unit_model.specs.Contents.{blocks_of, capacity_of, is_capacity}
use Rattle.unit_model.specs.Unit.{PlainUnit}
use Rattle.device_model.specs.World.{PlainQueue, PlainWorld, Opens}
use Rattle.ring_core.specs.Writes.{Write}
use Rattle.device_model.specs.Events.{Event}
use Rattle.device_model.specs.Happens.{Reached, MayWant}
use Rattle.device_model.specs.Turns.{Turns, IsStep}
use Rattle.config.specs.Config.{is_config}
use Rattle.device_steps.specs.Opening.{IsOpening}
use Rattle.config.specs.ConfigFault.{IsFault}
use Rattle.device_steps.specs.Settling.{asks}
use Rattle.world.specs.Settling.{ServesSomeOrWants, ServesOrWants}
use Rattle.world.specs.Promise.{ServesAsPromised, SettlesAsPromised}
use Rattle.world.specs.declared.served.Served.{Served as Portion}
use Rattle.device_steps.specs.Views.{unit_at, IsIndexOf, fault_of, device_status}
use Rattle.world.specs.Notifications.{binary, owed_of, IsAsked}
use Rattle.config.specs.declared.config.Config.{Config}
use Rattle.config.specs.declared.config_fault.ConfigFault.{ConfigFault}
use Rattle.config.specs.declared.config_fault.ConfigFault.TheVariants as config
use Rattle.ring_core.specs.declared.layout.LayoutFault.{LayoutFault}
use Rattle.ring_core.specs.declared.layout.LayoutFault.TheVariants as layout
use Rattle.c_calls.specs.declared.wanted.Fault.{Fault}
use Rattle.c_calls.specs.Wanted.{Asks}
use Rattle.c_calls.specs.declared.answer.Answer.{Answer}
use Rattle.c_calls.specs.declared.answer.Answer.TheVariants as answer
use Rattle.c_calls.specs.declared.served.Served.{Served}
use Rattle.c_calls.specs.declared.wanted.WantedQueue.{WantedQueue}
use Rattle.c_calls.specs.declared.wanted.WantedUnit.{WantedUnit}

-- where there is a device, this is done with it; else nothing is, and what the caller lent is as it was
abbrev pub Serving : (Served → Answer → Served → Type 0) → Type 0 → Option Served → Answer → Option Served → Type 0
Serving R Same None a after = (a ≡ answer.NoDevice) × (after ≡ None) × Same
Serving R Same (Some d) a after = (d' : Served) × (after ≡ Some d') × R d a d'

-- as `World::settle`
abbrev pub SettlesWorld : PlainWorld → ℕ → Answer → ℕ → PlainWorld → Type 0
SettlesWorld w old answer.Done new w' = ServesOrWants w (Ok new) w' × SettlesAsPromised w (Ok new) w'
SettlesWorld w old answer.NoMemory new w' =
    (x : NoMemory) × ServesOrWants w (Err x) w' × SettlesAsPromised w (Err x) w' × (new ≡ old)
SettlesWorld w old a new w' = ⊥

abbrev pub Settles : ℕ → ℕ → Served → Answer → Served → Type 0
Settles old new d a d' = SettlesWorld d.world old a new d'.world × (d'.told ≡ d.told)

-- as `World::serve`; of what was served before memory was refused nothing is told
abbrev pub ServesWorld : ℕ → ℕ → PlainWorld → Portion → Answer → Portion → PlainWorld → Type 0
ServesWorld queues most w old answer.Done new w' = ServesSomeOrWants (asks queues) most w (Ok new) w'
    × ServesAsPromised (asks queues) w (Ok new) w'
ServesWorld queues most w old answer.NoMemory new w' =
    (x : NoMemory) × ServesSomeOrWants (asks queues) most w (Err x) w' × ServesAsPromised (asks queues) w (Err x) w'
    × (new ≡ old)
ServesWorld queues most w old a new w' = ⊥

abbrev pub ServesPortion : ℕ → ℕ → ℕ → Bool → ℕ → Bool → Served → Answer → Served → Type 0
ServesPortion queues most steps more steps' more' d a d' =
    ServesWorld queues most d.world (record { steps = steps; more = more }) a (record { steps = steps'; more = more' }) d'.world
    × (d'.told ≡ d.told)

-- as `World::poke`
abbrev pub PokesWorld : PlainWorld → Write → Answer → PlainWorld → Type 0
PokesWorld w p answer.Done w' = Turns w (Event.Poke p) true w'
PokesWorld w p answer.Outside w' = Turns w (Event.Poke p) false w'
PokesWorld w p a w' = ⊥

abbrev pub Pokes : Write → Served → Answer → Served → Type 0
Pokes p d a d' = PokesWorld d.world p a d'.world × (d'.told ≡ d.told)

-- as `GuestMem::read`
abbrev pub PeeksAt : List ℕ → ℕ → List ℕ → Answer → List ℕ → Type 0
PeeksAt m addr old answer.Done new = LiesIn (length m) addr (length old) × (new ≡ bytes_at m addr (length old))
PeeksAt m addr old answer.Outside new = (LiesIn (length m) addr (length old) → ⊥) × (new ≡ old)
PeeksAt m addr old a new = ⊥

abbrev pub Peeks : ℕ → List ℕ → List ℕ → Served → Answer → Served → Type 0
Peeks addr old new d a d' = PeeksAt d.world.memory addr old a new × (d' ≡ d)

-- as `Notifications::owed`
pub record Owes (bits : ℕ) (d : Served) (a : Answer) (d' : Served) : Type 0 where
  pub done : a ≡ answer.Done
  pub owed : bits ≡ binary (owed_of d.told d.world.queues)
  pub asked : IsAsked d.told d.world.queues d'.told
  pub same : d'.world ≡ d.world

-- as `World::status`
abbrev pub IsStatus : ℕ → Served → Answer → Served → Type 0
IsStatus status d a d' = (a ≡ answer.Done) × (status ≡ device_status d.world) × (d' ≡ d)

-- the number of a fault of a ring, and 0 for none
abbrev pub number_of : Option RingFault → ℕ
number_of None = 0
number_of (Some ring.IndexJump) = 1
number_of (Some ring.HeadOutOfRange) = 2
number_of (Some ring.NextOutOfRange) = 3
number_of (Some ring.ChainTooLong) = 4
number_of (Some ring.BufferOutside) = 5
number_of (Some ring.ReadableAfterWritable) = 6
number_of (Some ring.AlreadyOutstanding) = 7
number_of (Some ring.BadIndirect) = 8
number_of (Some ring.RingOverrun) = 9
number_of (Some ring.NoMemory) = 10

-- as `World::broken`
abbrev pub BrokenBy : List PlainQueue → ℕ → ℕ → Answer → ℕ → Type 0
BrokenBy queues queue old answer.Done new = (queue < length queues)
    × (new ≡ number_of (fault_of (slice_get queues queue)))
BrokenBy queues queue old answer.NoQueue new = (length queues ≤ queue) × (new ≡ old)
BrokenBy queues queue old a new = ⊥

abbrev pub Breaks : ℕ → ℕ → ℕ → Served → Answer → Served → Type 0
Breaks queue old new d a d' = BrokenBy d.world.queues queue old a new × (d' ≡ d)

-- as the counts of `World::log`
abbrev pub CountsAt : Option PlainQueue → ℕ → ℕ → Answer → ℕ → ℕ → Type 0
CountsAt (Some q) accepted used answer.Done accepted' used' = (accepted' ≡ length q.ring.log.accepted)
    × (used' ≡ length q.ring.log.used)
CountsAt None accepted used answer.NoQueue accepted' used' = (accepted' ≡ accepted) × (used' ≡ used)
CountsAt q accepted used a accepted' used' = ⊥

abbrev pub Counts : ℕ → ℕ → ℕ → ℕ → ℕ → Served → Answer → Served → Type 0
Counts queue accepted used accepted' used' d a d' =
    CountsAt (slice_get d.world.queues queue) accepted used a accepted' used' × (d' ≡ d)

-- as `World::step` of a hard reset of the unit of an address
abbrev pub ResetsWorld : PlainWorld → ℕ → ℕ → Answer → PlainWorld → Type 0
ResetsWorld w target lun answer.Done w' = (unit_index : ℕ) × (changed : Bool) × IsIndexOf w target lun (Some unit_index)
    × IsStep w (Event.Hard unit_index) changed w'
ResetsWorld w target lun answer.NoMemory w' = (unit_index : ℕ) × IsIndexOf w target lun (Some unit_index)
    × MayWant (Event.Hard unit_index) w × (w' ≡ w)
ResetsWorld w target lun answer.NoUnit w' = IsIndexOf w target lun None × (w' ≡ w)
ResetsWorld w target lun a w' = ⊥

abbrev pub Resets : ℕ → ℕ → Served → Answer → Served → Type 0
Resets target lun d a d' = ResetsWorld d.world target lun a d'.world × (d'.told ≡ d.told)

-- as `World::step` of a resize of the unit of an address, to a capacity that a unit may have
abbrev pub ResizesWorld : PlainWorld → ℕ → ℕ → ℕ → Answer → PlainWorld → Type 0
ResizesWorld w target lun blocks answer.BadCapacity w' = (is_capacity blocks ≡ false) × (w' ≡ w)
ResizesWorld w target lun blocks answer.Done w' = (unit_index : ℕ) × (changed : Bool) × (is_capacity blocks ≡ true)
    × IsIndexOf w target lun (Some unit_index) × IsStep w (Event.Resize unit_index blocks) changed w'
ResizesWorld w target lun blocks answer.NoMemory w' = (unit_index : ℕ) × (is_capacity blocks ≡ true)
    × IsIndexOf w target lun (Some unit_index) × MayWant (Event.Resize unit_index blocks) w × (w' ≡ w)
ResizesWorld w target lun blocks answer.NoUnit w' = (is_capacity blocks ≡ true) × IsIndexOf w target lun None × (w' ≡ w)
ResizesWorld w target lun blocks a w' = ⊥

abbrev pub Resizes : ℕ → ℕ → ℕ → Served → Answer → Served → Type 0
Resizes target lun blocks d a d' = ResizesWorld d.world target lun blocks a d'.world × (d'.told ≡ d.told)

-- as `World::capacity`
abbrev pub HasCapacity : Option PlainUnit → ℕ → Answer → ℕ → Type 0
HasCapacity (Some u) old answer.Done new = new ≡ capacity_of u.opening u.steps
HasCapacity None old answer.NoUnit new = new ≡ old
HasCapacity u old a new = ⊥

abbrev pub Holds : ℕ → ℕ → ℕ → ℕ → Served → Answer → Served → Type 0
Holds target lun old new d a d' = HasCapacity (unit_at d.world target lun) old a new × (d' ≡ d)

-- as `World::read_blocks`, from a unit into room that is as long as the blocks; only for a block is memory wanted
abbrev pub GivesFrom : Option PlainUnit → ℕ → ℕ → List ℕ → Answer → List ℕ → Type 0
GivesFrom None first count old answer.NoUnit new = new ≡ old
GivesFrom (Some u) first count old answer.Outside new = (capacity_of u.opening u.steps < first + count) × (new ≡ old)
GivesFrom (Some u) first count old answer.NoMemory new = (first + count ≤ capacity_of u.opening u.steps)
    × (0 < count) × (new ≡ old)
GivesFrom (Some u) first count old answer.Done new = (first + count ≤ capacity_of u.opening u.steps)
    × (new ≡ run (blocks_of u.opening u.steps) first count)
GivesFrom u first count old a new = ⊥

-- before all else the room is measured
abbrev pub GivesBlocks : Option PlainUnit → ℕ → ℕ → List ℕ → Answer → List ℕ → Type 0
GivesBlocks u first count old answer.BadLength new = (length old ≢ 512 * count) × (new ≡ old)
GivesBlocks u first count old a new = (length old ≡ 512 * count) × GivesFrom u first count old a new

abbrev pub Gives : ℕ → ℕ → ℕ → ℕ → List ℕ → List ℕ → Served → Answer → Served → Type 0
Gives target lun first count old new d a d' = GivesBlocks (unit_at d.world target lun) first count old a new × (d' ≡ d)

-- the numbers of a cause: which, what it is of, and of a layout why
pub record Cause : Type 0 where
  pub cause : ℕ
  pub place : ℕ
  pub detail : ℕ

abbrev pub layout_number : LayoutFault → ℕ
layout_number layout.BadSize = 1
layout_number layout.BadAlignment = 2
layout_number layout.Outside = 3
layout_number layout.NoMemory = 4
layout_number layout.BadStart = 5

abbrev pub cause_of : ConfigFault → Cause
cause_of config.Pages = record { cause = 1; place = 0; detail = 0 }
cause_of config.Features = record { cause = 2; place = 0; detail = 0 }
cause_of config.QueueCount = record { cause = 3; place = 0; detail = 0 }
cause_of (config.QueueSize k) = record { cause = 4; place = k; detail = 0 }
cause_of (config.QueueLayout k why) = record { cause = 5; place = k; detail = layout_number why }
cause_of config.Workers = record { cause = 6; place = 0; detail = 0 }
cause_of config.Handoff = record { cause = 7; place = 0; detail = 0 }
cause_of config.UnitCount = record { cause = 8; place = 0; detail = 0 }
cause_of (config.UnitLun k) = record { cause = 9; place = k; detail = 0 }
cause_of (config.UnitBlocks k) = record { cause = 10; place = k; detail = 0 }
cause_of (config.UnitOrder k) = record { cause = 11; place = k; detail = 0 }
cause_of (config.NoLun0 k) = record { cause = 12; place = k; detail = 0 }
cause_of (config.UnitIdentity k) = record { cause = 15; place = k; detail = 0 }
cause_of (config.UnitNaa k) = record { cause = 16; place = k; detail = 0 }

abbrev pub plain_cause : Fault → Cause
plain_cause f = record { cause = f.cause; place = f.place; detail = f.detail }

-- the device of a configuration that is taken, of which nobody was told anything
pub record Makes (c : Config) (d : Served) : Type 0 where
  pub taken : is_config c ≡ true
  pub opening : IsOpening c d.world
  pub opens : Opens d.world
  pub reaches : Reached d.world [] d.world
  pub told : d.told ≡ replicate 18 0

-- why a configuration isn't taken
pub record Refuses (c : Config) (told : Fault) : Type 0 where
  pub refused : is_config c ≡ false
  pub fault : ConfigFault
  pub is : IsFault c fault
  pub named : plain_cause told ≡ cause_of fault

-- as `World::new`; only why a configuration isn't taken is told
abbrev pub CreatesOf : ℕ → ℕ → List WantedQueue → List WantedUnit → Fault → Answer → Fault → Option Served → Type 0
CreatesOf pages features queues units old answer.Done told after =
    (c : Config) × (d : Served) × Asks pages features queues units c × Makes c d × (after ≡ Some d) × (told ≡ old)
CreatesOf pages features queues units old answer.BadConfig told after =
    (c : Config) × Asks pages features queues units c × Refuses c told × (after ≡ None)
CreatesOf pages features queues units old answer.NoMemory told after = (after ≡ None) × (told ≡ old)
CreatesOf pages features queues units old a told after = ⊥

abbrev pub Creates : ℕ → ℕ → List WantedQueue → List WantedUnit → Fault → Fault → Option Served → Answer
    → Option Served → Type 0
Creates pages features queues units old told None a after = CreatesOf pages features queues units old a told after
Creates pages features queues units old told (Some d) a after = (a ≡ answer.InUse) × (after ≡ Some d) × (told ≡ old)

abbrev pub Destroys : Option Served → Answer → Option Served → Type 0
Destroys None a after = (a ≡ answer.NoDevice) × (after ≡ None)
Destroys (Some d) a after = (a ≡ answer.Done) × (after ≡ None)
