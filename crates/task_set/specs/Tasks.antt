-- The tasks of a task set, with the jobs of those that wait.
use Rattle.std.specs.Prelude.{false, List, [], ◌∷◌, map, Option, Some, None}
use Rattle.unit_model.specs.Seen.{Seen}
use Rattle.unit_model.specs.Jobs.{PlainJob}
use Rattle.ring_core.specs.declared.log.Ticket.{Ticket}
use Rattle.cdb.specs.declared.commands.Command.TheVariants.{TestUnitReady}
use Rattle.request_intake.specs.UnitRequest.{PlainRequest}
use Rattle.request_intake.specs.declared.attribute.TaskAttribute.TheVariants.{Simple}
use Rattle.unit_model.specs.Tasks.{Entry, entry_of}

-- own: what is kept of a task, and its job as long as it waits
pub record PlainTask : Type 0 where
  pub seen : Seen
  pub parked : Option PlainJob

-- own: the jobs that are there
abbrev pub there : List (Option PlainJob) → List PlainJob
there [] = []
there (None ∷ more) = there more
there (Some j ∷ more) = j ∷ there more

-- own: the jobs of the tasks that wait, by order of entry
abbrev pub parked_of : List PlainTask → List PlainJob
parked_of tasks = there (map (λ (t : PlainTask). t.parked) tasks)

-- own: the task of a request; without one, a TEST UNIT READY
abbrev pub entry_of_request : Ticket → Option PlainRequest → Entry
entry_of_request t (Some r) = entry_of t r
entry_of_request t None = record { ticket = t; id = 0; attribute = Simple; command = TestUnitReady; asks_medium = false; data_out = [] }

-- own: the request of a task, its own or shared
abbrev pub request_of : Option PlainRequest → Option PlainRequest → Option PlainRequest
request_of (Some r) shared = Some r
request_of None shared = shared
