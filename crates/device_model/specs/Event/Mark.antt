-- The open function marks the tasks of its next unit, or looks at them.
use Rattle.std.specs.Prelude.{ℕ, ◌≡◌, Bool, List, [], ◌∷◌, length, Some, slice_get}
use Rattle.ring_core.specs.declared.log.Ticket.{Ticket}
use Rattle.unit_model.specs.declared.rule.Rule.{Rule}
use Rattle.unit_model.specs.Steps.{alive}
use Rattle.unit_model.specs.Seen.{any_met}
use Rattle.unit_model.specs.Jobs.{PlainJob}
use Rattle.unit_model.specs.Unit.{PlainUnit, after as stepped}
use Rattle.task_mgmt.specs.Functions.{step_by, marking, asking, failing}
use Rattle.task_mgmt.specs.declared.kind.Kind.{Kind}
use Rattle.task_mgmt.specs.declared.kind.Kind.TheVariants.{Marking, Querying}
use Rattle.task_mgmt.specs.declared.kind.MarkBy.{MarkBy}
use Rattle.task_mgmt.specs.declared.function.Mark.{Mark as MarkAt}
use Rattle.device_model.specs.World.{Seat, Opened, PlainWorld, change}
use Rattle.device_model.specs.Found.{UnitIs, handed_out}
use Rattle.device_model.specs.Changing.{with_jobs, on_function}
use Rattle.device_model.specs.Event.Wake.{waking}

-- a function with a unit left to mark, or to look at
pub record IsMarking (w : PlainWorld) (t : Ticket) (unit_index : ℕ) (kind : Kind) : Type 0 where
  pub opened : Opened
  pub there : w.function ≡ Some opened
  pub of : opened.chain.ticket ≡ t
  pub does : opened.function.kind ≡ kind
  pub later : List ℕ
  pub left : opened.function.left ≡ unit_index ∷ later
  pub unit : PlainUnit
  pub unit_there : UnitIs w unit_index unit

pub record Marks (w : PlainWorld) (t : Ticket) (p : MarkAt) (m : MarkBy) (jobs : List PlainJob) : Type 0 where
  pub marking : IsMarking w t p.unit (Marking m)
  pub before : p.place ≡ length marking.unit.steps
  pub releases : jobs ≡ handed_out marking.unit (step_by m)
  pub seat : Seat
  pub seat_there : slice_get w.seats 0 ≡ Some seat

-- the first worker's seat has the jobs that may run now; each job that waits is to be tried again, since a
-- task that is marked ends without them
abbrev pub after_mark : Ticket → MarkAt → MarkBy → List PlainJob → PlainWorld → PlainWorld
after_mark t p m jobs w =
    record w {
      units = change (stepped (step_by m)) p.unit w.units;
      seats = change (with_jobs jobs) 0 w.seats;
      function = on_function (marking p) w.function;
      aside = [];
      woken = waking w;
    }

pub record Asks (w : PlainWorld) (t : Ticket) (unit_index : ℕ) (rule : Rule) (b : Bool) : Type 0 where
  pub marking : IsMarking w t unit_index (Querying rule)
  pub is : b ≡ any_met rule (alive marking.unit.steps)

-- the function knows what it found
abbrev pub after_ask : Ticket → ℕ → Rule → Bool → PlainWorld → PlainWorld
after_ask t u rule b w = record w { function = on_function (asking b) w.function }

pub record MarksRefused (w : PlainWorld) (t : Ticket) : Type 0 where
  pub how : MarkBy
  pub unit_index : ℕ
  pub marking : IsMarking w t unit_index (Marking how)

-- the function is to fail
abbrev pub after_mark_refused : Ticket → PlainWorld → PlainWorld
after_mark_refused t w = record w { function = on_function failing w.function }

-- a function with a unit left
pub record MayMark (w : PlainWorld) : Type 0 where
  pub opened : Opened
  pub there : w.function ≡ Some opened
  pub unit_index : ℕ
  pub later : List ℕ
  pub left : opened.function.left ≡ unit_index ∷ later
