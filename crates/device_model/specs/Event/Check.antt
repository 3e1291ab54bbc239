-- The open function finds its first mark clear.
use Rattle.std.specs.Prelude.{◌≡◌, true, List, [], ◌∷◌, Some}
use Rattle.ring_core.specs.declared.log.Ticket.{Ticket}
use Rattle.unit_model.specs.Clearing.{is_clear}
use Rattle.unit_model.specs.Unit.{PlainUnit}
use Rattle.task_mgmt.specs.Functions.{checking}
use Rattle.task_mgmt.specs.declared.function.Mark.{Mark as MarkAt}
use Rattle.device_model.specs.World.{Opened, PlainWorld}
use Rattle.device_model.specs.Found.{UnitIs}
use Rattle.device_model.specs.Changing.{on_function}

-- a function that has marked all its units
pub record IsWaiting (w : PlainWorld) (t : Ticket) (marks : List MarkAt) : Type 0 where
  pub opened : Opened
  pub there : w.function ≡ Some opened
  pub of : opened.chain.ticket ≡ t
  pub left : opened.function.left ≡ []
  pub still : opened.function.waits ≡ marks

pub record Checks (w : PlainWorld) (t : Ticket) (p : MarkAt) : Type 0 where
  pub later : List MarkAt
  pub waiting : IsWaiting w t (p ∷ later)
  pub unit : PlainUnit
  pub there : UnitIs w p.unit unit
  pub clear : is_clear p.place unit.steps ≡ true

-- the function waits for its other marks
abbrev pub after_check : Ticket → MarkAt → PlainWorld → PlainWorld
after_check t p w = record w { function = on_function checking w.function }

-- a function that has visited all its units, and whose first mark is clear
pub record MayCheck (w : PlainWorld) : Type 0 where
  pub opened : Opened
  pub there : w.function ≡ Some opened
  pub left : opened.function.left ≡ []
  pub mark : MarkAt
  pub later : List MarkAt
  pub still : opened.function.waits ≡ mark ∷ later
  pub unit : PlainUnit
  pub unit_there : UnitIs w mark.unit unit
  pub clear : is_clear mark.place unit.steps ≡ true
