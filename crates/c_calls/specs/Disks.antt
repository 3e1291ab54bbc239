-- What the calls on disks do, and those that hand disks to a device and back.
use Rattle.std.specs.Prelude.{ℕ, ◌≡◌, ◌≢◌, ◌≤◌, ◌<◌, ◌+◌, ◌*◌, ◌/◌, ◌⊎◌, Bool, true, false, List, [], length, map, replicate, slice_get, Option, Some, None, is_some}
use Rattle.std.specs.List.{list_any}
use Rattle.block_store.specs.Blocks.{zero_block, overwritten, run}
use Rattle.block_store.specs.Pages.{blocks_in}
use Rattle.backed_store.specs.Disks.{size_of, blocks_of, storage_of, holds, budget_of, is_backed}
use Rattle.backed_store.specs.declared.disk.Disk.{Disk as UnitDisk}
use Rattle.unit_model.specs.Contents.{is_capacity}
use Rattle.request_intake.specs.declared.inventory.UnitSpec.{UnitSpec}
use Rattle.config.specs.Config.{is_config}
use Rattle.config.specs.declared.config.Config.{Config}
use Rattle.device_model.specs.World.{Opens}
use Rattle.device_model.specs.Happens.{Reached}
use Rattle.device_steps.specs.Opening.{IsDiskFor, AreDisksFor, AreDisksOf, IsOpeningOver}
use Rattle.c_calls.specs.Wanted.{Asks}
use Rattle.c_calls.specs.Calls.{Refuses, plain_cause}
use Rattle.c_calls.specs.declared.answer.Answer.{Answer}
use Rattle.c_calls.specs.declared.answer.Answer.TheVariants as answer
use Rattle.c_calls.specs.declared.served.Served.{Served}
use Rattle.c_calls.specs.declared.wanted.Fault.{Fault}
use Rattle.c_calls.specs.declared.wanted.WantedQueue.{WantedQueue}
use Rattle.c_calls.specs.declared.wanted.WantedUnit.{WantedUnit}

-- a disk of so many blocks of zeros, all in memory
pub record IsBlank (blocks : ℕ) (s : UnitDisk) : Type 0 where
  pub size : size_of s ≡ blocks
  pub zeros : (b : ℕ) → blocks_of s b ≡ zero_block
  pub resident : is_backed s ≡ false

-- a disk is made where there is none, of a capacity that a unit may have
abbrev pub CreatesDisk : ℕ → Option UnitDisk → Answer → Option UnitDisk → Type 0
CreatesDisk blocks (Some s) a after = (a ≡ answer.InUse) × (after ≡ Some s)
CreatesDisk blocks None answer.BadCapacity after = (is_capacity blocks ≡ false) × (after ≡ None)
CreatesDisk blocks None answer.NoMemory after = (is_capacity blocks ≡ true) × (after ≡ None)
CreatesDisk blocks None answer.Done after = (is_capacity blocks ≡ true) × (s : UnitDisk) × IsBlank blocks s × (after ≡ Some s)
CreatesDisk blocks None a after = ⊥

-- a disk of so many blocks whose pages come and go, of which none is in memory and at most so many will be, over a storage that
-- has these bytes
pub record IsBackedOver (content : List ℕ) (blocks most_pages : ℕ) (s : UnitDisk) : Type 0 where
  pub size : size_of s ≡ blocks
  pub contents : (b : ℕ) → blocks_of s b ≡ blocks_in content b
  pub absent : (b : ℕ) → holds s b ≡ false
  pub storage : storage_of s ≡ Some (record { content = content; dealings = [] })
  pub budget : budget_of s ≡ Some most_pages

-- own: how many pages such a disk may have in memory at least: those of the 65,536 blocks of the largest UNMAP (`unmapped`), and
-- 256 more, among them two for each of its 16 ranges
abbrev pub least_pages : ℕ
least_pages = 65536 / 8 + 256

-- such a disk is made where there is none, of a capacity that a unit may have
abbrev pub CreatesBacked : List ℕ → ℕ → ℕ → Option UnitDisk → Answer → Option UnitDisk → Type 0
CreatesBacked content blocks most_pages (Some s) a after = (a ≡ answer.InUse) × (after ≡ Some s)
CreatesBacked content blocks most_pages None answer.BadCapacity after = (is_capacity blocks ≡ false) × (after ≡ None)
CreatesBacked content blocks most_pages None answer.BadLength after = (most_pages < least_pages) × (after ≡ None)
CreatesBacked content blocks most_pages None answer.NoMemory after = after ≡ None
CreatesBacked content blocks most_pages None answer.Done after =
    (is_capacity blocks ≡ true) × (least_pages ≤ most_pages) × (s : UnitDisk) × IsBackedOver content blocks most_pages s × (after ≡ Some s)
CreatesBacked content blocks most_pages None a after = ⊥

-- whether there is a disk whose pages come and go
abbrev pub has_backed : Option UnitDisk → Bool
has_backed None = false
has_backed (Some s) = is_backed s

abbrev pub DestroysDisk : Option UnitDisk → Answer → Option UnitDisk → Type 0
DestroysDisk None a after = (a ≡ answer.NoDisk) × (after ≡ None)
DestroysDisk (Some s) a after = (a ≡ answer.Done) × (after ≡ None)

-- where there is a disk, this is done with it; else nothing is, and what the caller lent is as it was
abbrev pub OnDisk : (UnitDisk → Answer → UnitDisk → Type 0) → Type 0 → Option UnitDisk → Answer → Option UnitDisk → Type 0
OnDisk R Same None a after = (a ≡ answer.NoDisk) × (after ≡ None) × Same
OnDisk R Same (Some s) a after = (s' : UnitDisk) × (after ≡ Some s') × R s a s'

-- how many blocks it has
abbrev pub HasBlocks : ℕ → Option UnitDisk → Answer → ℕ → Type 0
HasBlocks old None a new = (a ≡ answer.NoDisk) × (new ≡ old)
HasBlocks old (Some s) a new = (a ≡ answer.Done) × (new ≡ size_of s)

-- its blocks are as they were, as many, and its host's storage was dealt nothing, if it has one
pub record IsUnchanged (s s' : UnitDisk) : Type 0 where
  pub size : size_of s' ≡ size_of s
  pub blocks : (b : ℕ) → blocks_of s' b ≡ blocks_of s b
  pub storage : storage_of s' ≡ storage_of s

-- the same, but for these bytes over its blocks from the first on
pub record IsOverwritten (first : ℕ) (bytes : List ℕ) (s s' : UnitDisk) : Type 0 where
  pub size : size_of s' ≡ size_of s
  pub blocks : (b : ℕ) → blocks_of s' b ≡ overwritten (blocks_of s) first bytes b
  pub storage : storage_of s' ≡ storage_of s

-- these bytes are put over its blocks from the first on, or nothing is changed; before all else they are measured
abbrev pub LoadsBlocks : ℕ → ℕ → List ℕ → UnitDisk → Answer → UnitDisk → Type 0
LoadsBlocks first count bytes s answer.BadLength s' = (length bytes ≢ 512 * count) × (s' ≡ s)
LoadsBlocks first count bytes s answer.Outside s' = (length bytes ≡ 512 * count) × (size_of s < first + count) × (s' ≡ s)
LoadsBlocks first count bytes s answer.NoMemory s' = (length bytes ≡ 512 * count) × (first + count ≤ size_of s)
    × IsUnchanged s s'
LoadsBlocks first count bytes s answer.Done s' = (length bytes ≡ 512 * count) × (first + count ≤ size_of s)
    × IsOverwritten first bytes s s'
LoadsBlocks first count bytes s a s' = ⊥

-- its blocks from the first on are copied out; before all else the room is measured
abbrev pub SavesBlocks : ℕ → ℕ → List ℕ → List ℕ → UnitDisk → Answer → Type 0
SavesBlocks first count old new s answer.BadLength = (length old ≢ 512 * count) × (new ≡ old)
SavesBlocks first count old new s answer.Outside = (length old ≡ 512 * count) × (size_of s < first + count) × (new ≡ old)
SavesBlocks first count old new s answer.NoMemory = (length old ≡ 512 * count) × (first + count ≤ size_of s) × (0 < count)
    × (new ≡ old)
SavesBlocks first count old new s answer.Done = (length old ≡ 512 * count) × (first + count ≤ size_of s)
    × (new ≡ run (blocks_of s) first count)
SavesBlocks first count old new s a = ⊥

abbrev pub Saves : ℕ → ℕ → List ℕ → List ℕ → UnitDisk → Answer → UnitDisk → Type 0
Saves first count old new s a s' = SavesBlocks first count old new s a × IsUnchanged s s'

-- the device of a configuration that is taken, over disks that are all in memory, of which nobody was told anything
pub record MakesOver (c : Config) (stores : List UnitDisk) (d : Served) : Type 0 where
  pub taken : is_config c ≡ true
  pub disks : AreDisksFor c.units.items stores
  pub resident : list_any is_backed stores ≡ false
  pub opening : IsOpeningOver c stores d.world
  pub opens : Opens d.world
  pub reaches : Reached d.world [] d.world
  pub told : d.told ≡ replicate 18 0

-- there is a disk that the unit may have: one whose pages come and go only where the device is on live memory, since no call
-- loads or stores a page of another
abbrev pub Fits : Bool → UnitSpec → Option UnitDisk → Type 0
Fits is_live u None = ⊥
Fits is_live u (Some s) = IsDiskFor u s × (is_backed s ≡ true → is_live ≡ true)

-- the first unit that has no disk, or one that it may not have, stands at an index
abbrev pub Lacks : Bool → List UnitSpec → List (Option UnitDisk) → ℕ → Type 0
Lacks is_live units disks unit_index = (u : UnitSpec) × (disk : Option UnitDisk) × (slice_get units unit_index ≡ Some u)
    × (slice_get disks unit_index ≡ Some disk) × (Fits is_live u disk → ⊥)
    × ((k : ℕ) (v : UnitSpec) (other : Option UnitDisk) → k < unit_index → slice_get units k ≡ Some v
    → slice_get disks k ≡ Some other → Fits is_live v other)

-- and that is told by the cause of number 13 and the unit's index
pub record LacksDisk (c : Config) (disks : List (Option UnitDisk)) (told : Fault) : Type 0 where
  pub taken : is_config c ≡ true
  pub lacks : Lacks false c.units.items disks told.place
  pub named : plain_cause told ≡ record { cause = 13; place = told.place; detail = 0 }

-- as `World::new_with`: the disks are the device's then; else all is as it was, but for why a configuration isn't taken
abbrev pub CreatesOverOf : ℕ → ℕ → List WantedQueue → List WantedUnit → List (Option UnitDisk) → Fault → Answer → Fault
    → Option Served → List (Option UnitDisk) → Type 0
CreatesOverOf pages features queues units disks old answer.Done told after disks' =
    (c : Config) × (d : Served) × (stores : List UnitDisk) × Asks pages features queues units c × MakesOver c stores d
    × (disks ≡ map (λ s. Some s) stores) × (after ≡ Some d) × (told ≡ old) × (disks' ≡ map (λ s. None) stores)
CreatesOverOf pages features queues units disks old answer.BadConfig told after disks' =
    (c : Config) × Asks pages features queues units c × (Refuses c told ⊎ LacksDisk c disks told) × (after ≡ None)
    × (disks' ≡ disks)
CreatesOverOf pages features queues units disks old answer.BadLength told after disks' =
    (length disks ≢ length units) × (after ≡ None) × (told ≡ old) × (disks' ≡ disks)
CreatesOverOf pages features queues units disks old answer.NoMemory told after disks' =
    (after ≡ None) × (told ≡ old) × (disks' ≡ disks)
CreatesOverOf pages features queues units disks old a told after disks' = ⊥

abbrev pub CreatesOver : ℕ → ℕ → List WantedQueue → List WantedUnit → Fault → Fault → Option Served → List (Option UnitDisk)
    → Answer → Option Served → List (Option UnitDisk) → Type 0
CreatesOver pages features queues units old told None disks a after disks' =
    CreatesOverOf pages features queues units disks old a told after disks'
CreatesOver pages features queues units old told (Some d) disks a after disks' =
    (a ≡ answer.InUse) × (after ≡ Some d) × (told ≡ old) × (disks' ≡ disks)

-- as `World::close`: the device is gone then, and its disks stand where there was none; else all is as it was
abbrev pub ClosesInto : Served → List (Option UnitDisk) → Answer → Option Served → List (Option UnitDisk) → Type 0
ClosesInto d disks answer.BadLength after disks' = (length disks ≢ length d.world.units) × (after ≡ Some d) × (disks' ≡ disks)
ClosesInto d disks answer.InUse after disks' = (length disks ≡ length d.world.units) × (list_any is_some disks ≡ true)
    × (after ≡ Some d) × (disks' ≡ disks)
ClosesInto d disks answer.NoMemory after disks' = (length disks ≡ length d.world.units) × (list_any is_some disks ≡ false)
    × (after ≡ Some d) × (disks' ≡ disks)
ClosesInto d disks answer.Done after disks' = (length disks ≡ length d.world.units) × (list_any is_some disks ≡ false)
    × (stores : List UnitDisk) × AreDisksOf d.world.units stores × (after ≡ None) × (disks' ≡ map (λ s. Some s) stores)
ClosesInto d disks a after disks' = ⊥

abbrev pub Closes : Option Served → List (Option UnitDisk) → Answer → Option Served → List (Option UnitDisk) → Type 0
Closes None disks a after disks' = (a ≡ answer.NoDevice) × (after ≡ None) × (disks' ≡ disks)
Closes (Some d) disks a after disks' = ClosesInto d disks a after disks'
