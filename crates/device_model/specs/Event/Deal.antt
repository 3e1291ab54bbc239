-- The host takes a page of a unit's disk to write it, or says that it wrote it.
use Rattle.std.specs.Prelude.{ℕ}
use Rattle.block_store.specs.Storage.{Dealing}
use Rattle.unit_model.specs.Unit.{PlainUnit, MayDeal, dealing}
use Rattle.device_model.specs.World.{PlainWorld, change}
use Rattle.device_model.specs.Found.{UnitIs}

pub record Deals (w : PlainWorld) (unit_index : ℕ) (d : Dealing) : Type 0 where
  pub unit : PlainUnit
  pub there : UnitIs w unit_index unit
  pub may : MayDeal unit d

-- of the unit of an index
abbrev pub after_deal : ℕ → Dealing → PlainWorld → PlainWorld
after_deal unit_index d w = record w { units = change (dealing d) unit_index w.units }
