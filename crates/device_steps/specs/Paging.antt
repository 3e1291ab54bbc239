-- What a host does with the disks whose pages come and go.
use Rattle.std.specs.Prelude.{ℕ, ◌≡◌, ◌*◌, ◌<◌, true, List, Some, slice_get, IfSome}
use Rattle.block_store.specs.Storage.{Dealing, IsPageOf, storage_by}
use Rattle.unit_model.specs.Contents.{capacity_of}
use Rattle.unit_model.specs.Unit.{PlainUnit, MayDeal, is_backed, dealing}
use Rattle.device_model.specs.World.{change}
use Rattle.device_steps.specs.Apart.{PlainDevice}

-- the disk of the unit at an index is such a one, and has this page: its blocks 8 page to 8 page + 7, as far as it goes
pub record HasPage (units : List PlainUnit) (unit_index page : ℕ) : Type 0 where
  pub unit : PlainUnit
  pub there : slice_get units unit_index ≡ Some unit
  pub backed : is_backed unit ≡ true
  pub below : 8 * page < capacity_of unit.opening unit.steps

-- the bytes are those of a page of the disk of the unit at an index, as the host's storage has them by what it said
abbrev pub IsKeptPage : List PlainUnit → ℕ → ℕ → List ℕ → Type 0
IsKeptPage units unit_index page bytes =
    (u : PlainUnit) → slice_get units unit_index ≡ Some u → IfSome u.storage (λ s. IsPageOf (storage_by s).kept page bytes)

-- own: the host dealt so with the storage of the unit at an index, which it may, and nothing else of the device changed
pub record IsDealt (old : PlainDevice) (unit_index : ℕ) (d : Dealing) (new : PlainDevice) : Type 0 where
  pub unit : PlainUnit
  pub there : slice_get old.units unit_index ≡ Some unit
  pub may : MayDeal unit d
  pub is : new ≡ record old { units = change (dealing d) unit_index old.units }
