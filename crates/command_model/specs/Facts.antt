-- What a command is told of its logical unit, as plain values.
use Rattle.std.specs.Prelude.{ℕ, Bool, List, Option}
use Rattle.sense.specs.declared.Sense.{Sense}
use Rattle.cdb.specs.declared.profile.Profile.{Profile}
use Rattle.command_model.specs.declared.identity.Identity.{Identity}

-- the address of the unit, the LUNs of its target by rising number, its capacity in blocks, the
-- oldest pending unit attention, the commands that it knows, what its configuration says of it, and whether its disk is one whose
-- pages come and go
pub record Facts : Type 0 where
  pub target : ℕ
  pub lun : ℕ
  pub luns : List ℕ
  pub capacity : ℕ
  pub pending : Option Sense
  pub profile : Profile
  pub identity : Identity
  pub backed : Bool
