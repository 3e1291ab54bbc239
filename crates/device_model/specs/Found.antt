-- What stands where in a device, and which step of a unit may come next there.
use Rattle.std.specs.Prelude.{ℕ, ◌≡◌, IsTrue, List, Some, slice_get}
use Rattle.cdb.specs.declared.commands.Command.{Command}
use Rattle.unit_model.specs.Steps.{Step}
use Rattle.unit_model.specs.Contents.{facts_after}
use Rattle.unit_model.specs.Lawful as history
use Rattle.unit_model.specs.Released.{released}
use Rattle.command_model.specs.Memory.{may_run_short}
use Rattle.unit_model.specs.Jobs.{PlainJob, of_tasks}
use Rattle.unit_model.specs.Unit.{PlainUnit}
use Rattle.device_model.specs.Parts.{Slot, Hand}
use Rattle.device_model.specs.World.{PlainQueue, Seat, PlainWorld}

abbrev pub QueueIs : PlainWorld → ℕ → PlainQueue → Type 0
QueueIs w q queue = slice_get w.queues q ≡ Some queue

abbrev pub UnitIs : PlainWorld → ℕ → PlainUnit → Type 0
UnitIs w unit_index u = slice_get w.units unit_index ≡ Some u

abbrev pub SeatIs : PlainWorld → ℕ → Hand → List PlainJob → Type 0
SeatIs w k hand out = slice_get w.seats k ≡ Some (record { hand = hand; out = out })

-- the jobs that a seat handed off and that none took yet
abbrev pub OffIs : PlainWorld → ℕ → List PlainJob → Type 0
OffIs w k jobs = slice_get w.handed_off k ≡ Some jobs

abbrev pub SlotIs : PlainWorld → ℕ → Slot → Type 0
SlotIs w i s = (q : PlainQueue) × (slice_get w.queues i ≡ Some q) × (q.slot ≡ s)

abbrev pub HasSeat : PlainWorld → ℕ → Type 0
HasSeat w k = (s : Seat) × (slice_get w.seats k ≡ Some s)

abbrev pub HasHand : PlainWorld → ℕ → Hand → Type 0
HasHand w k h = (out : List PlainJob) × SeatIs w k h out

-- a hand of a seat, and a unit
pub record HandAtUnit (w : PlainWorld) (k : ℕ) (hand : Hand) (unit_index : ℕ) : Type 0 where
  pub out : List PlainJob
  pub seat : SeatIs w k hand out
  pub unit : PlainUnit
  pub there : UnitIs w unit_index unit

-- the step may come next there
abbrev pub MayStep : PlainUnit → Step → Type 0
MayStep u s = history.May u.opening s u.steps

-- the command, which runs next there, may be refused memory
abbrev pub MayYield : PlainUnit → Command → Type 0
MayYield u command = IsTrue (may_run_short u.keeps_replies (facts_after u.opening u.steps) command)

-- the jobs that a step hands out there
abbrev pub handed_out : PlainUnit → Step → List PlainJob
handed_out u s = of_tasks (released s u.steps) u.parked
