-- The device that opens over disks of zeros, and the storages that its host has of those whose pages come and go.
use Rattle.std.specs.Prelude.{ℕ, ◌≡◌, true, List, [], ◌∷◌, ◌++◌, length, Option, Some, is_some, IfSome, slice_get, ⊤}
use Rattle.block_store.specs.Blocks.{zero_block}
use Rattle.block_store.specs.Storage.{Ledger}
use Rattle.backed_store.specs.Disks.{size_of, blocks_of, is_backed, storage_of}
use Rattle.backed_store.specs.declared.disk.Disk.{Disk}
use Rattle.host_storage.specs.Inner.Storage.{given_blocks, kept_blocks}
use Rattle.request_intake.specs.declared.inventory.UnitSpec.{UnitSpec}
use Rattle.config.specs.Config.{is_config}
use Rattle.config.specs.declared.config.Config.{Config}
use Rattle.config.specs.declared.config.StartFault.{StartFault}
use Rattle.config.specs.declared.config.StartFault.TheVariants.{BadConfig, NoMemory}
use Rattle.device_steps.specs.Opening.{IsOpeningOver}
use Rattle.stored_world.specs.Inner.Device.{world_of}
use Rattle.stored_world.specs.declared.hosted.HostedDisk.{HostedDisk}
use Rattle.stored_world.specs.declared.stored.StoredWorld.{StoredWorld}

-- own: the storage of a disk, of zeros as the disk's host has them, with which nothing was dealt yet
pub record IsFresh (d : Disk) (h : HostedDisk) : Type 0 where
  pub undealt : (l : Ledger) → storage_of d ≡ Some l → l ≡ record { content = []; dealings = [] }
  pub given : (b : ℕ) → given_blocks h.storage b ≡ zero_block
  pub kept : (b : ℕ) → kept_blocks h.storage b ≡ zero_block
  pub capacity : h.capacity ≡ size_of d

-- own: a disk of so many blocks, each of zeros. Exactly where it is to have a cache, its pages come and go, and it has a storage
pub record IsZeroDisk (blocks : ℕ) (cache : Option ℕ) (d : Disk) (h : Option HostedDisk) : Type 0 where
  pub size : size_of d ≡ blocks
  pub zeros : (b : ℕ) → blocks_of d b ≡ zero_block
  pub backed : is_backed d ≡ is_some cache
  pub stored : is_some h ≡ is_some cache
  pub fresh : IfSome h (λ x. IsFresh d x)

-- own: the device of a configuration, of which nothing has happened yet, with such a disk for each unit
pub record IsStoredOpening (c : Config) (caches : List (Option ℕ)) (s : StoredWorld) : Type 0 where
  pub disks : List Disk
  pub opening : IsOpeningOver c disks (world_of s)
  pub count : length disks ≡ length c.units.items
  pub storages : length s.disks.items ≡ length c.units.items
  pub each : (k : ℕ) (u : UnitSpec) (cache : Option ℕ) (d : Disk) (h : Option HostedDisk) → slice_get c.units.items k ≡ Some u
      → slice_get caches k ≡ Some cache → slice_get disks k ≡ Some d → slice_get s.disks.items k ≡ Some h → IsZeroDisk u.blocks cache d h

-- own: one for each unit: of how many pages its cache is, if it has one
pub record AreCachesFor (wanted : List UnitSpec) (caches : List (Option ℕ)) : Type 0 where
  pub count : length caches ≡ length wanted

-- own: refused as such only where the configuration isn't valid, or these aren't caches of its units
abbrev pub StoredRefusedAs : Config → List (Option ℕ) → StartFault → Type 0
StoredRefusedAs c caches BadConfig = is_config c ≡ true → AreCachesFor c.units.items caches → ⊥
StoredRefusedAs c caches NoMemory = ⊤

-- own: a disk of so many blocks of zeros is the last of the disks now, and its storage, if it has one, the last of the storages
pub record AddsDisk (blocks : ℕ) (cache : Option ℕ) (ds : List Disk) (hs : List (Option HostedDisk)) (ds' : List Disk)
    (hs' : List (Option HostedDisk)) : Type 0 where
  pub disk : Disk
  pub hosted : Option HostedDisk
  pub is : IsZeroDisk blocks cache disk hosted
  pub disks : ds' ≡ ds ++ disk ∷ []
  pub storages : hs' ≡ hs ++ hosted ∷ []
