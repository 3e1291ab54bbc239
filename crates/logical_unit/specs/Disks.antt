-- A disk apart from its unit: the one that a unit opened with, and the one that it leaves.
use Rattle.std.specs.Prelude.{ℕ, ◌≡◌, List, Option}
use Rattle.std.specs.Option.{option_map}
use Rattle.block_store.specs.Blocks.{run}
use Rattle.block_store.specs.Storage.{Ledger, Dealing, and_then}
use Rattle.backed_store.specs.Disks as disks
use Rattle.backed_store.specs.declared.disk.Disk.{Disk}
use Rattle.unit_model.specs.Contents.{Opening, blocks_of, capacity_of}
use Rattle.unit_model.specs.Unit.{PlainUnit}

-- the bytes of all blocks of a disk, whether they are in memory or not
abbrev pub disk_bytes : Disk → List ℕ
disk_bytes disk = run (disks.blocks_of disk) 0 (disks.size_of disk)

-- what a unit opens with, but with a disk: its blocks, as many, and whether its pages come and go
abbrev pub opening_over : Disk → Opening → Opening
opening_over disk o = record o { blocks = disks.size_of disk; content = disk_bytes disk; backed = disks.is_backed disk }

-- what its host's storage has then, if the disk's pages come and go: what it had, cut off at the disk's end
abbrev pub storage_over : Disk → Option Ledger
storage_over disk = option_map (and_then (Dealing.Cut (disks.size_of disk))) (disks.storage_of disk)

-- the unit, over a disk
abbrev pub unit_over : Disk → PlainUnit → PlainUnit
unit_over disk u = record u { opening = opening_over disk u.opening; storage = storage_over disk }

-- a disk has the blocks of a unit, and as many, as its history left them, and what the host's storage has
pub record IsDiskOf (u : PlainUnit) (disk : Disk) : Type 0 where
  pub size : disks.size_of disk ≡ capacity_of u.opening u.steps
  pub blocks : (b : ℕ) → disks.blocks_of disk b ≡ blocks_of u.opening u.steps b
  pub storage : disks.storage_of disk ≡ u.storage
