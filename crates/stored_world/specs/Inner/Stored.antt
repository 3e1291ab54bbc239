-- What a host that keeps its storages in memory has of the disks of a device.
use Rattle.std.specs.Prelude.{ℕ, ◌≡◌, List, Option, Some, slice_get}
use Rattle.block_store.specs.Storage.{Ledger, storage_by}
use Rattle.host_storage.specs.Inner.Storage.{given_blocks, kept_blocks}
use Rattle.host_storage.specs.declared.storage.Storage.{Storage}
use Rattle.unit_model.specs.Contents.{capacity_of}
use Rattle.unit_model.specs.Unit.{PlainUnit}
use Rattle.stored_world.specs.declared.hosted.HostedDisk.{HostedDisk}

-- own: the storage was given, and keeps, what a host dealt by this ledger
pub record IsStorageBy (l : Ledger) (s : Storage) : Type 0 where
  pub given : (b : ℕ) → given_blocks s b ≡ (storage_by l).given b
  pub kept : (b : ℕ) → kept_blocks s b ≡ (storage_by l).kept b

-- own: it is the storage of a unit's disk, and as large
pub record IsHosted (u : PlainUnit) (h : HostedDisk) : Type 0 where
  pub storage : (l : Ledger) → u.storage ≡ Some l → IsStorageBy l h.storage
  pub capacity : h.capacity ≡ capacity_of u.opening u.steps

-- own: so is each that is there, of the unit at its index
abbrev pub AreHosted : List PlainUnit → List (Option HostedDisk) → Type 0
AreHosted units disks =
    (k : ℕ) (u : PlainUnit) (h : HostedDisk) → slice_get units k ≡ Some u → slice_get disks k ≡ Some (Some h) → IsHosted u h
