-- What the calls do that hand disks to a device on live memory and back.
use Rattle.std.specs.Prelude.{ℕ, ◌≡◌, ◌≢◌, ◌⊎◌, true, false, List, length, map, replicate, Option, Some, None, is_some}
use Rattle.std.specs.List.{list_any}
use Rattle.backed_store.specs.declared.disk.Disk.{Disk as UnitDisk}
use Rattle.host_bus.specs.Map.{map_of}
use Rattle.live_mem.specs.Live.{bus_of}
use Rattle.config.specs.Config.{is_config_for}
use Rattle.config.specs.declared.config.Config.{Config}
use Rattle.device_steps.specs.Opening.{AreDisksFor, AreDisksOf}
use Rattle.world.specs.LiveWorld.{IsOpeningOverApart, OpensIn, BeginsIn}
use Rattle.c_calls.specs.Calls.{plain_cause}
use Rattle.c_calls.specs.Disks.{Lacks}
use Rattle.c_calls.specs.Live.{all_bytes, RefusesLive}
use Rattle.c_calls.specs.LiveWanted.{AsksLive}
use Rattle.c_calls.specs.Mapped.{opening_rings}
use Rattle.c_calls.specs.declared.answer.Answer.{Answer}
use Rattle.c_calls.specs.declared.answer.Answer.TheVariants as answer
use Rattle.c_calls.specs.declared.live_served.LiveServed.{LiveServed}
use Rattle.c_calls.specs.declared.live_wanted.WantedRing.{WantedRing}
use Rattle.c_calls.specs.declared.wanted.Fault.{Fault}
use Rattle.c_calls.specs.declared.wanted.WantedUnit.{WantedUnit}

-- the device of a configuration that is taken, over disks and over what C mapped by this number. Nobody was told anything of
-- it, and none of its queues is mapped
pub record MakesLiveOver (host_map : ℕ) (c : Config) (stores : List UnitDisk) (d : LiveServed) : Type 0 where
  pub over : map_of (bus_of d.world.memory) ≡ host_map
  pub taken : is_config_for all_bytes c ≡ true
  pub size : d.world.memory.size ≡ all_bytes
  pub disks : AreDisksFor c.units.items stores
  pub opening : IsOpeningOverApart all_bytes c stores d.world.device
  pub opens : OpensIn true all_bytes d.world.device
  pub reaches : BeginsIn true all_bytes d.world.device
  pub told : d.told ≡ replicate 18 0
  pub rings : d.rings ≡ opening_rings c

-- the first unit that has no disk, or one that it may not have, is told by the cause of number 13 and its index
pub record LacksLiveDisk (c : Config) (disks : List (Option UnitDisk)) (told : Fault) : Type 0 where
  pub taken : is_config_for all_bytes c ≡ true
  pub lacks : Lacks true c.units.items disks told.place
  pub named : plain_cause told ≡ record { cause = 13; place = told.place; detail = 0 }

-- as `LiveWorld::new_with`: the disks are the device's then; else all is as it was, but for why a configuration isn't taken
abbrev pub CreatesLiveOverOf : ℕ → ℕ → List WantedRing → List WantedUnit → List (Option UnitDisk) → Fault → Answer → Fault
    → Option LiveServed → List (Option UnitDisk) → Type 0
CreatesLiveOverOf host_map features rings units disks old answer.Done told after disks' =
    (c : Config) × (d : LiveServed) × (stores : List UnitDisk) × AsksLive features rings units c × MakesLiveOver host_map c stores d
    × (disks ≡ map (λ s. Some s) stores) × (after ≡ Some d) × (told ≡ old) × (disks' ≡ map (λ s. None) stores)
CreatesLiveOverOf host_map features rings units disks old answer.BadConfig told after disks' =
    (c : Config) × AsksLive features rings units c × (RefusesLive c told ⊎ LacksLiveDisk c disks told) × (after ≡ None)
    × (disks' ≡ disks)
CreatesLiveOverOf host_map features rings units disks old answer.BadLength told after disks' =
    (length disks ≢ length units) × (after ≡ None) × (told ≡ old) × (disks' ≡ disks)
CreatesLiveOverOf host_map features rings units disks old answer.NoMemory told after disks' =
    (after ≡ None) × (told ≡ old) × (disks' ≡ disks)
CreatesLiveOverOf host_map features rings units disks old a told after disks' = ⊥

abbrev pub CreatesLiveOver : ℕ → ℕ → List WantedRing → List WantedUnit → Fault → Fault → Option LiveServed
    → List (Option UnitDisk) → Answer → Option LiveServed → List (Option UnitDisk) → Type 0
CreatesLiveOver host_map features rings units old told None disks a after disks' =
    CreatesLiveOverOf host_map features rings units disks old a told after disks'
CreatesLiveOver host_map features rings units old told (Some d) disks a after disks' =
    (a ≡ answer.InUse) × (after ≡ Some d) × (told ≡ old) × (disks' ≡ disks)

-- as `LiveWorld::close`: the device is gone then, and its disks stand where there was none; else all is as it was
abbrev pub ClosesLiveInto : LiveServed → List (Option UnitDisk) → Answer → Option LiveServed → List (Option UnitDisk) → Type 0
ClosesLiveInto d disks answer.BadLength after disks' =
    (length disks ≢ length d.world.device.units) × (after ≡ Some d) × (disks' ≡ disks)
ClosesLiveInto d disks answer.InUse after disks' =
    (length disks ≡ length d.world.device.units) × (list_any is_some disks ≡ true) × (after ≡ Some d) × (disks' ≡ disks)
ClosesLiveInto d disks answer.NoMemory after disks' =
    (length disks ≡ length d.world.device.units) × (list_any is_some disks ≡ false) × (after ≡ Some d) × (disks' ≡ disks)
ClosesLiveInto d disks answer.Done after disks' =
    (length disks ≡ length d.world.device.units) × (list_any is_some disks ≡ false)
    × (stores : List UnitDisk) × AreDisksOf d.world.device.units stores × (after ≡ None)
    × (disks' ≡ map (λ s. Some s) stores)
ClosesLiveInto d disks a after disks' = ⊥

abbrev pub ClosesLive : Option LiveServed → List (Option UnitDisk) → Answer → Option LiveServed → List (Option UnitDisk)
    → Type 0
ClosesLive None disks a after disks' = (a ≡ answer.NoDevice) × (after ≡ None) × (disks' ≡ disks)
ClosesLive (Some d) disks a after disks' = ClosesLiveInto d disks a after disks'
