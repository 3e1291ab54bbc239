-- Which logical units a device has: their addresses, in rising order of target and LUN, and their profiles.
use Rattle.std.specs.Prelude.{ℕ, ◌==◌, ◌&&◌, ◌||◌, nat_lt, Bool, true, List, [], ◌∷◌, map, filter, Option, Some, None, position, slice_get, unwrap_or}
use Rattle.std.specs.List.{list_any}
use Rattle.cdb.specs.declared.profile.Profile.{Profile}
use Rattle.cdb.specs.declared.profile.Profile.TheVariants.{Narrow}
use Rattle.scsi_codec.specs.declared.lun.Address.{Address}
use Rattle.request_intake.specs.declared.inventory.Known.{Known}
use Rattle.request_intake.specs.declared.inventory.UnitSpec.{UnitSpec}

abbrev pub address_of : UnitSpec → Address
address_of u = record { target = u.target; lun = u.lun }

-- own: the address of each unit, and the profile of its commands, each at its unit's index
pub record PlainInventory : Type 0 where
  pub addresses : List Address
  pub profiles : List Profile

-- the inventory of units
abbrev pub inventory_of : List UnitSpec → PlainInventory
inventory_of units =
    record {
      addresses = map address_of units;
      profiles = map (λ (u : UnitSpec). u.profile) units;
    }

-- the profiles of units as they are kept
abbrev pub profiles_of : List Known → List Profile
profiles_of known = map (λ (k : Known). k.profile) known

-- one address stands before another
abbrev pub stands_before : Address → Address → Bool
stands_before a b = nat_lt a.target b.target || ((a.target == b.target) && nat_lt a.lun b.lun)

-- each address stands before the next
abbrev pub is_rising : List Address → Bool
is_rising [] = true
is_rising (a ∷ []) = true
is_rising (a ∷ b ∷ more) = stands_before a b && is_rising (b ∷ more)

abbrev pub has_target : List Address → ℕ → Bool
has_target units target = list_any (λ u. u.target == target) units

-- the index of an address
abbrev pub index_of : List Address → Address → Option ℕ
index_of units a = position (λ u. (u.target == a.target) && (u.lun == a.lun)) units

-- own: the profile of the unit at an index that was found; narrow where none was
abbrev pub profile_at : PlainInventory → Option ℕ → Profile
profile_at units None = Narrow
profile_at units (Some unit_index) = unwrap_or (slice_get units.profiles unit_index) Narrow

-- own: the profile of the unit with this address; narrow where none is there
abbrev pub profile_of : PlainInventory → Address → Profile
profile_of units a = profile_at units (index_of units.addresses a)

-- the LUNs of a target
abbrev pub luns_of : List Address → ℕ → List ℕ
luns_of units target = map (λ u. u.lun) (filter (λ u. u.target == target) units)
