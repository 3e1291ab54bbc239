-- Whose task a job is, by what its request asked for.
use Rattle.std.specs.Prelude.{ℕ, Bool, ◌≡◌, ◌≢◌, ◌<◌, ◌⊎◌, true, false, List, Option, Some, None, ⊤}
use Rattle.cdb.specs.declared.commands.Command.{Command}
use Rattle.request_intake.specs.declared.attribute.TaskAttribute.{TaskAttribute}
use Rattle.unit_model.specs.Tasks.{Entry, task_of}
use Rattle.unit_model.specs.Steps.{Step, alive, done, next_number}
use Rattle.unit_model.specs.Marks.{marked}
use Rattle.unit_model.specs.Enabling.{enabled}
use Rattle.unit_model.specs.Jobs.{PlainJob}
use Rattle.unit_model.specs.Receipts.{unit_address}
use Rattle.command_model.specs.PlainReply.{PlainReply}
use Rattle.unit_model.specs.Unit.{PlainUnit, IsWithheld}

-- the request names the unit (SAM-5 §4.7): no other unit takes it
abbrev pub IsNamed : PlainJob → PlainUnit → Type 0
IsNamed j u = j.address ≡ unit_address u.opening

-- own: the unit refuses the request: it isn't the one that is named, or the ticket isn't above the last of its queue
abbrev pub IsMisdelivered : PlainJob → PlainUnit → Type 0
IsMisdelivered j u =
    (j.address ≢ unit_address u.opening) ⊎ (j.entry.ticket.number < next_number j.entry.ticket.queue u.steps)

-- own: what a job says of its request: all but the data that its command takes
pub record Asked : Type 0 where
  pub id : ℕ
  pub attribute : TaskAttribute
  pub command : Command
  pub asks_medium : Bool

abbrev pub asked_of : Entry → Asked
asked_of e = record { id = e.id; attribute = e.attribute; command = e.command; asks_medium = e.asks_medium }

-- own: the task is alive under the job's ticket, and entered with what the job says
pub record IsOf (j : PlainJob) (e : Entry) (steps : List Step) : Type 0 where
  pub is_there : task_of j.entry.ticket (alive steps) ≡ Some e
  pub as_asked : asked_of e ≡ asked_of j.entry

-- own: the task of the job's ticket, if there is one, entered with another request, is done, or was never handed out
abbrev pub CannotCommit : Option Entry → PlainJob → List Step → Type 0
CannotCommit None j steps = ⊤
CannotCommit (Some e) j steps =
    (asked_of e ≢ asked_of j.entry)
    ⊎ ((done e.ticket steps ≡ true) ⊎ ((marked e.ticket steps ≡ false) × (enabled e steps ≡ false)))

-- own: no reply to the job's task is withheld
abbrev pub IsNotWithheld : PlainJob → PlainUnit → Type 0
IsNotWithheld j u = (e : Entry) (r : PlainReply) → IsOf j e u.steps → IsWithheld u j.entry.ticket e r → ⊥
