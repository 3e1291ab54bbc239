-- What a phase does on what one lock lends: what a transition asks there, and what it leaves.
use Rattle.std.specs.Prelude.{◌≡◌, ◌+◌, ◌≤◌, ◌++◌, List, length}
use Rattle.unit_model.specs.Jobs.{PlainJob, Jobs}
use Rattle.unit_model.specs.Unit.{PlainUnit}
use Rattle.device_model.specs.Transitions.{Transition}
use Rattle.device_model.specs.Phases.{AsksUnit, unit_after}

-- a transition on a unit
pub record DoesUnit (d : Transition) (u u' : PlainUnit) : Type 0 where
  pub asks : AsksUnit d u
  pub is : u' ≡ unit_after d u

-- a list with these jobs behind its own
abbrev pub with_more : List PlainJob → Jobs → Jobs
with_more jobs out = record out { jobs = out.jobs ++ jobs }

-- there is room for all that a unit may hand out
abbrev pub HasPlaces : Jobs → Type 0
HasPlaces out = length out.jobs + 64 ≤ out.limit
