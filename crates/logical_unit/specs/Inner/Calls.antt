-- Rests on `specs/Calls.antt`; no promise rests on it.
use Rattle.std.specs.Prelude.{ℕ, ◌≡◌, ◌==◌, ◌&&◌, ◌||◌, Bool, false, [], Option, Some, None, IsTrue}
use Rattle.cdb.specs.declared.commands.Command.{Command}
use Rattle.command_model.specs.Effects.{changes_medium}
use Rattle.command_model.specs.PlainReply.{PlainReply, success}
use Rattle.command_model.specs.Statuses.{good}
use Rattle.unit_model.specs.Tasks.{Entry, task_of}
use Rattle.unit_model.specs.Steps.{Step, alive}
use Rattle.unit_model.specs.Lawful.{IsReady}
use Rattle.unit_model.specs.Receipts.{receipt_of}
use Rattle.unit_model.specs.Jobs.{PlainJob}
use Rattle.unit_model.specs.Unit.{PlainUnit, is_backed, tells_no_cache, IsWithheld, Replies, Steps}
use Rattle.unit_model.specs.Asking.{IsOf, CannotCommit}
use Rattle.logical_unit.specs.Calls.{Commits}
use Rattle.logical_unit.specs.declared.outcomes.Entered.{Entered}
use Rattle.logical_unit.specs.declared.outcomes.Entered.TheVariants as entered
use Rattle.logical_unit.specs.declared.outcomes.Outcome.{Outcome}
use Rattle.logical_unit.specs.declared.outcomes.Outcome.TheVariants as outcome

-- own: a task entered: its job, where that is to be committed
abbrev pub entered_of : Option PlainJob → Entered
entered_of (Some job) = entered.Run job
entered_of None = entered.Parked

-- own: whether a command that asks for the medium, or doesn't, is told of GOOD only once the host's storage has what it changed
abbrev pub writes_through : PlainUnit → Bool → Command → Bool
writes_through u asks_medium command = is_backed u && ((tells_no_cache u || asks_medium) && changes_medium command)

-- the command runs whole, as `Commits` says it, whether its reply may be told at once or not
abbrev pub Runs : PlainUnit → PlainJob → Outcome → PlainUnit → Type 0
Runs old j (outcome.Reply receipt) new =
    (e : Entry) × IsOf j e old.steps × IsReady j.entry.ticket e old.steps
    × (r : PlainReply) × Replies old e r
    × (receipt ≡ receipt_of old.opening old.steps j.entry.ticket (Some r))
    × Steps old (Step.Commit j.entry.ticket r) new
Runs old j outcome.Unknown new = CannotCommit (task_of j.entry.ticket (alive old.steps)) j old.steps × (new ≡ old)
Runs old j outcome new = Commits old j outcome new

-- own: the reply, if there is one, has status GOOD
abbrev pub is_good : Option PlainReply → Bool
is_good None = false
is_good (Some r) = r.status == good

abbrev pub ends_well : Outcome → Bool
ends_well (outcome.Reply receipt) = is_good receipt.reply
ends_well outcome = false

-- own: the reply to the job's task is withheld, and says that its command ended with GOOD
pub record IsHeldBack (u : PlainUnit) (j : PlainJob) : Type 0 where
  pub entry : Entry
  pub of : IsOf j entry u.steps
  pub held : IsWithheld u j.entry.ticket entry (success entry.command [])
