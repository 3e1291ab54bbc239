-- A request that goes to a unit, decoded.
use Rattle.std.specs.Prelude.{ℕ, Bool, List}
use Rattle.cdb.specs.declared.commands.Command.{Command}
use Rattle.request_intake.specs.declared.attribute.TaskAttribute.{TaskAttribute}

-- the driver's identifier of the command, its task attribute, the command, whether it asks for the medium itself (FUA, SBC-3 §5.11),
-- and the data that it takes
pub record PlainRequest : Type 0 where
  pub id : ℕ
  pub attribute : TaskAttribute
  pub command : Command
  pub asks_medium : Bool
  pub data_out : List ℕ
