-- What the calls of a unit answer, by cases.
use Rattle.std.specs.Prelude.{ℕ, ◌≡◌, ◌≤◌, true, false, ◌||◌, List, ◌∷◌, Option, Some, None, IfSome, IsTrue, ⊤}
use Rattle.ring_core.specs.declared.log.Ticket.{Ticket}
use Rattle.unit_model.specs.Tasks.{Entry, task_of, is_blocked}
use Rattle.unit_model.specs.Steps.{Step, alive, done, next_number}
use Rattle.unit_model.specs.Marks.{mark_of, marked}
use Rattle.unit_model.specs.Contents.{is_capacity, facts_after}
use Rattle.unit_model.specs.Lawful.{IsReady, May}
use Rattle.unit_model.specs.Receipts.{receipt_of}
use Rattle.unit_model.specs.Jobs.{PlainJob}
use Rattle.unit_model.specs.Unit.{PlainUnit, parking, Replies, Steps, waits_behind, EndsAtOnce, IsWithheld, HasToWait}
use Rattle.unit_model.specs.Asking.{IsOf, IsNamed, IsMisdelivered, CannotCommit, IsNotWithheld}
use Rattle.unit_model.specs.Flushing.{IsThrough}
use Rattle.command_model.specs.Memory.{may_run_short}
use Rattle.command_model.specs.PlainReply.{PlainReply}
use Rattle.logical_unit.specs.declared.outcomes.Entered.{Entered}
use Rattle.logical_unit.specs.declared.outcomes.Entered.TheVariants as entered
use Rattle.logical_unit.specs.declared.outcomes.Outcome.{Outcome}
use Rattle.logical_unit.specs.declared.outcomes.Outcome.TheVariants as outcome
use Rattle.logical_unit.specs.declared.outcomes.ResizeFault.{ResizeFault}
use Rattle.logical_unit.specs.declared.outcomes.ResizeFault.TheVariants as resize_fault

-- a request enters the unit that it names and no other: the job is handed out where nothing blocks its task, and else
-- kept; TASK SET FULL and want of memory give it back, and so does a unit that isn't named, or that saw a later ticket of
-- its queue
abbrev pub Enters : PlainUnit → PlainJob → Entered → PlainUnit → Type 0
Enters old j (entered.Run job) new =
    (job ≡ j) × IsNamed j old × (is_blocked j.entry (alive (Step.Enter j.entry ∷ old.steps)) ≡ false)
    × Steps old (Step.Enter j.entry) new
Enters old j entered.Parked new =
    IsNamed j old × (is_blocked j.entry (alive (Step.Enter j.entry ∷ old.steps)) ≡ true)
    × May old.opening (Step.Enter j.entry) old.steps
    × (new ≡ parking j old)
Enters old j (entered.Full job) new = (job ≡ j) × IsNamed j old × Steps old (Step.Full j.entry.ticket) new
Enters old j (entered.Busy job) new = (job ≡ j) × IsNamed j old
    × (next_number j.entry.ticket.queue old.steps ≤ j.entry.ticket.number)
    × (new ≡ old)
Enters old j (entered.Stale job) new = (job ≡ j) × IsMisdelivered j old × (new ≡ old)

-- the command runs whole and its receipt has the reply, which may be that the medium can't be read, and may be told at once; its
-- task was marked, and nothing changes; it is refused memory, and only a Busy stands for it; or no task of the job can take the step
abbrev pub Commits : PlainUnit → PlainJob → Outcome → PlainUnit → Type 0
Commits old j (outcome.Reply receipt) new =
    (e : Entry) × IsOf j e old.steps × IsReady j.entry.ticket e old.steps
    × (r : PlainReply) × Replies old e r
    × (receipt ≡ receipt_of old.opening old.steps j.entry.ticket (Some r))
    × Steps old (Step.Commit j.entry.ticket r) new × EndsAtOnce old j.entry.ticket e r
Commits old j (outcome.Aborted reason) new =
    (e : Entry) × IsOf j e old.steps × (mark_of j.entry.ticket old.steps ≡ Some reason) × (new ≡ old)
Commits old j outcome.Busy new =
    (e : Entry) × IsOf j e old.steps
    × IsTrue (may_run_short old.keeps_replies (facts_after old.opening old.steps) e.command)
    × Steps old (Step.Busy j.entry.ticket) new
Commits old j outcome.Unknown new =
    CannotCommit (task_of j.entry.ticket (alive old.steps)) j old.steps × (new ≡ old) × IsNotWithheld j old

-- the command runs later, or its reply is told later: it has to wait, and nothing is changed
pub record Waits (old : PlainUnit) (j : PlainJob) (new : PlainUnit) : Type 0 where
  pub entry : Entry
  pub of : IsOf j entry old.steps
  pub waits : HasToWait old j.entry.ticket entry
  pub same : new ≡ old

-- the command runs whole, and its reply isn't told before the host's storage has what it changed
pub record Withholds (old : PlainUnit) (j : PlainJob) (new : PlainUnit) : Type 0 where
  pub entry : Entry
  pub of : IsOf j entry old.steps
  pub ready : IsReady j.entry.ticket entry old.steps
  pub reply : PlainReply
  pub replies : Replies old entry reply
  pub waits : waits_behind old entry reply.status ≡ true
  pub steps : Steps old (Step.Commit j.entry.ticket reply) new

-- the reply that was withheld is told: whatever a crash leaves has what the command changed
abbrev pub Concludes : PlainUnit → PlainJob → Outcome → PlainUnit → Type 0
Concludes old j (outcome.Reply receipt) new =
    (e : Entry) × IsOf j e old.steps × (r : PlainReply) × IsWithheld old j.entry.ticket e r
    × IfSome old.storage (λ l. IsThrough old.opening old.steps l j.entry.ticket) × (receipt.reply ≡ Some r) × (new ≡ old)
Concludes old j outcome new = ⊥

-- own: a capacity is refused where no unit may have it, and memory only for one that it may have
abbrev pub ResizeRefused : ℕ → ResizeFault → Type 0
ResizeRefused blocks resize_fault.BadCapacity = is_capacity blocks ≡ false
ResizeRefused blocks resize_fault.NoMemory = is_capacity blocks ≡ true

-- own: no task of the ticket is alive, or it is neither done nor marked
abbrev pub CannotLeave : Option Entry → Ticket → List Step → Type 0
CannotLeave None t steps = ⊤
CannotLeave (Some e) t steps = (done t steps || marked t steps) ≡ false
