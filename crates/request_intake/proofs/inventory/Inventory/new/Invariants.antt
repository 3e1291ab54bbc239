use Rattle.std.proofs.Common.{◌≡◌, map, take}
use Rattle.request_intake.specs.Inventory.{address_of, profiles_of}
use Rattle.scsi_codec.specs.Lun.{number_of}
use Rattle.request_intake.specs.Inner.Numbers.{numbers_of}
use Rattle.request_intake.specs.declared.inventory.UnitSpec.{UnitSpec}
use Rattle.request_intake.proofs.inventory.Inventory.new.Given as goal

abbrev pub invariant-loop-unit : goal.invariant-loop-unit
invariant-loop-unit l = (l.addresses.items ≡ map address_of (take l.unit-index l.units))
    × (numbers_of l.known.items ≡ map number_of l.addresses.items)
    × (profiles_of l.known.items ≡ map (λ (u : UnitSpec). u.profile) (take l.unit-index l.units))
