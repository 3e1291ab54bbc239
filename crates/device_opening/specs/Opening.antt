-- The units that a configuration opens with.
use Rattle.std.specs.Prelude.{ℕ, ◌≡◌, Bool, false, List, [], length, map, slice_get, Some}
use Rattle.unit_model.specs.Contents.{Opening}
use Rattle.unit_model.specs.Unit.{PlainUnit}
use Rattle.unit_model.specs.Unit as unit
use Rattle.scsi_codec.specs.declared.lun.Address.{Address}
use Rattle.request_intake.specs.Inventory.{address_of, luns_of}
use Rattle.request_intake.specs.declared.inventory.UnitSpec.{UnitSpec}

-- what a unit opens with
abbrev pub opening_of : List Address → UnitSpec → Opening
opening_of inventory u =
    record {
      target = u.target;
      lun = u.lun;
      luns = luns_of inventory u.target;
      blocks = u.blocks;
      calm = u.calm;
      content = [];
      profile = u.profile;
      identity = u.identity;
      backed = false;
    }

-- a unit of which no step was taken, and whether it keeps the replies of its Commits
abbrev pub opening_unit : List Address → Bool → UnitSpec → PlainUnit
opening_unit inventory keeps u = unit.opening_unit (opening_of inventory u) keeps

-- the units, of which no step was taken, and whether they keep replies
pub record AreFresh (keeps : Bool) (wanted : List UnitSpec) (units : List PlainUnit) : Type 0 where
  pub count : length units ≡ length wanted
  pub each : (k : ℕ) (u : UnitSpec) → slice_get wanted k ≡ Some u → slice_get units k
      ≡ Some (opening_unit (map address_of wanted) keeps u)
