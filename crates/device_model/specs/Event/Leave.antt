-- An answered task leaves its unit.
use Rattle.std.specs.Prelude.{ℕ, ◌≡◌, List}
use Rattle.ring_core.specs.declared.log.Ticket.{Ticket}
use Rattle.unit_model.specs.Steps.{Step}
use Rattle.unit_model.specs.Jobs.{PlainJob}
use Rattle.unit_model.specs.Unit.{after as stepped}
use Rattle.device_model.specs.Parts.{Hand}
use Rattle.device_model.specs.World.{PlainWorld, change}
use Rattle.device_model.specs.Found.{HandAtUnit, MayStep, handed_out}
use Rattle.device_model.specs.Changing.{leaving}

pub record Leaves (w : PlainWorld) (k unit_index : ℕ) (t : Ticket) (jobs : List PlainJob) : Type 0 where
  pub holds : HandAtUnit w k (Hand.Answered unit_index t) unit_index
  pub may : MayStep holds.unit (Step.Leave t)
  pub enables : jobs ≡ handed_out holds.unit (Step.Leave t)

-- the jobs that may run now are in the list of the seat
abbrev pub after_leave : ℕ → ℕ → Ticket → List PlainJob → PlainWorld → PlainWorld
after_leave k u t jobs w =
    record w { seats = change (leaving jobs) k w.seats; units = change (stepped (Step.Leave t)) u w.units }
