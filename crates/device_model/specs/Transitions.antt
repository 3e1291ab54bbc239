-- A transition is an event with what it found and did. It fixes the world after it; the event and the action are parts of it.
use Rattle.std.specs.Prelude.{ℕ, Bool, true, false, List, [], ◌∷◌, Option, Some, None}
use Rattle.block_store.specs.Storage.{Dealing}
use Rattle.scsi_codec.specs.declared.event_queue.Event.{Event as EventRecord}
use Rattle.scsi_codec.specs.declared.control_queue.FunctionResponse.{FunctionResponse}
use Rattle.command_model.specs.PlainReply.{PlainReply}
use Rattle.ring_core.specs.State.{PlainChain}
use Rattle.ring_core.specs.Writes.{Write}
use Rattle.ring_core.specs.declared.fault.RingFault.{RingFault}
use Rattle.ring_core.specs.declared.log.Ticket.{Ticket}
use Rattle.unit_model.specs.declared.rule.Rule.{Rule}
use Rattle.unit_model.specs.declared.reason.Reason.{Reason}
use Rattle.unit_model.specs.Jobs.{PlainJob}
use Rattle.task_mgmt.specs.Functions.{PlainFunction}
use Rattle.task_mgmt.specs.declared.kind.MarkBy.{MarkBy}
use Rattle.task_mgmt.specs.declared.function.Mark.{Mark as MarkAt}
use Rattle.device_model.specs.Parts.{PlainFetch, Outcome, Completion}
use Rattle.device_model.specs.Events.{Event}

pub data Transition : Type 0 where
  Poke : Write → Transition
  -- Fetch: a request for a unit; a direct answer, of queue 0 or of a request queue; a function; a buffer that is
  -- held, or used at once; a fault
  Arrive : PlainFetch → PlainJob → Transition
  Refuse : PlainFetch → List ℕ → Transition
  Open : PlainFetch → PlainFunction → Transition
  Hold : PlainFetch → Transition
  UseBuffer : PlainFetch → Completion → Transition
  Break : ℕ → RingFault → Transition
  -- Enter: the task may run, or is parked; its unit is full, or was refused memory; or isn't the one that is named, or saw
  -- a later ticket, neither of which ever happens
  Run : PlainJob → Transition
  Park : PlainJob → Transition
  EnterFull : PlainJob → Transition
  EnterBusy : PlainJob → Transition
  EnterStale : PlainJob → Transition
  Direct : PlainChain → Outcome → Completion → Transition
  -- Put: to the own list of the hand-off, or where that is full to the own hand
  Put : ℕ → PlainJob → Transition
  Keep : ℕ → PlainJob → Transition
  -- Take: by which seat, from which seat's list
  Take : ℕ → ℕ → PlainJob → Transition
  -- Commit, by seat; that the unit doesn't know the task never happens
  Commit : ℕ → PlainJob → PlainReply → Transition
  CommitBusy : ℕ → PlainJob → Transition
  CommitAborted : ℕ → PlainJob → Reason → Transition
  CommitUnknown : ℕ → PlainJob → Transition
  -- its command waits for the host's storage, or its reply still does: the job is put aside
  Defer : ℕ → PlainJob → Transition
  -- its command runs, and its reply isn't told before the host's storage has what that changed: the job is put aside; then it is
  -- told
  Withhold : ℕ → PlainJob → PlainReply → Transition
  Conclude : ℕ → PlainJob → PlainReply → Transition
  -- the jobs that were put aside are to be tried again; a seat takes the first of these
  Wake : Transition
  Resume : ℕ → PlainJob → Transition
  Answer : ℕ → PlainJob → Outcome → Completion → Transition
  -- the unit, the ticket, and the jobs that are handed out
  Leave : ℕ → ℕ → Ticket → List PlainJob → Transition
  -- Mark, by the function's ticket: the place of its step, what marks, and the jobs that are handed out; or a look at a
  -- unit, and whether a task was found; or no memory
  Mark : Ticket → MarkAt → MarkBy → List PlainJob → Transition
  Ask : Ticket → ℕ → Rule → Bool → Transition
  MarkRefused : Ticket → Transition
  Check : Ticket → MarkAt → Transition
  -- AnswerTmf
  Respond : PlainChain → FunctionResponse → Completion → Transition
  Hard : MarkAt → List PlainJob → Transition
  -- the unit, and its blocks from now on
  Resize : ℕ → ℕ → Transition
  -- the unit, and what the host takes of its disk or says that it wrote
  Deal : ℕ → Dealing → Transition
  -- Raise: into the oldest buffer, or missed
  Give : EventRecord → PlainChain → Completion → Transition
  Miss : EventRecord → Transition
  Idle : Event → Transition

-- the queue of a fetch
abbrev pub queue_fetched : PlainFetch → ℕ
queue_fetched f = f.chain.ticket.queue

abbrev pub queue_of_job : PlainJob → ℕ
queue_of_job x = x.chain.ticket.queue

abbrev pub event_of : Transition → Event
event_of (Transition.Poke x) = Event.Poke x
event_of (Transition.Arrive f x) = Event.Fetch (queue_fetched f)
event_of (Transition.Refuse f a) = Event.Fetch (queue_fetched f)
event_of (Transition.Open f g) = Event.Fetch (queue_fetched f)
event_of (Transition.Hold f) = Event.Fetch (queue_fetched f)
event_of (Transition.UseBuffer f xs) = Event.Fetch (queue_fetched f)
event_of (Transition.Break q n) = Event.Fetch q
event_of (Transition.Run x) = Event.Enter (queue_of_job x)
event_of (Transition.Park x) = Event.Enter (queue_of_job x)
event_of (Transition.EnterFull x) = Event.Enter (queue_of_job x)
event_of (Transition.EnterBusy x) = Event.Enter (queue_of_job x)
event_of (Transition.EnterStale x) = Event.Enter (queue_of_job x)
event_of (Transition.Direct c o xs) = Event.Direct c.ticket.queue
event_of (Transition.Put k x) = Event.Put k
event_of (Transition.Keep k x) = Event.Put k
event_of (Transition.Take k from x) = Event.Take k
event_of (Transition.Commit k x r) = Event.Commit k
event_of (Transition.CommitBusy k x) = Event.Commit k
event_of (Transition.CommitAborted k x why) = Event.Commit k
event_of (Transition.CommitUnknown k x) = Event.Commit k
event_of (Transition.Defer k x) = Event.Commit k
event_of (Transition.Withhold k x r) = Event.Commit k
event_of (Transition.Conclude k x r) = Event.Commit k
event_of Transition.Wake = Event.Wake
event_of (Transition.Resume k x) = Event.Resume k
event_of (Transition.Answer k x o xs) = Event.Answer k
event_of (Transition.Leave k u t jobs) = Event.Leave k
event_of (Transition.Mark t p m jobs) = Event.Mark
event_of (Transition.Ask t u rule b) = Event.Mark
event_of (Transition.MarkRefused t) = Event.Mark
event_of (Transition.Check t p) = Event.Check
event_of (Transition.Respond c r xs) = Event.AnswerTmf
event_of (Transition.Hard p jobs) = Event.Hard p.unit
event_of (Transition.Resize unit_index blocks) = Event.Resize unit_index blocks
event_of (Transition.Deal unit_index x) = Event.Deal unit_index x
event_of (Transition.Give e c xs) = Event.Raise
event_of (Transition.Miss e) = Event.Raise
event_of (Transition.Idle e) = e

-- the writes into memory, the ticket that was answered, and whether something changed
pub record Action : Type 0 where
  pub writes : List Write
  pub answered : Option Ticket
  pub changed : Bool

abbrev pub quiet : Action
quiet = record { writes = []; answered = None; changed = true }

abbrev pub answering : Ticket → List Write → Action
answering t xs = record { writes = xs; answered = Some t; changed = true }

abbrev pub action_of : Transition → Action
action_of (Transition.Poke x) = record { writes = x ∷ []; answered = None; changed = true }
action_of (Transition.UseBuffer f xs) = answering f.chain.ticket xs.writes
action_of (Transition.Direct c o xs) = answering c.ticket xs.writes
action_of (Transition.Answer k x o xs) = answering x.chain.ticket xs.writes
action_of (Transition.Respond c r xs) = answering c.ticket xs.writes
action_of (Transition.Give e c xs) = answering c.ticket xs.writes
action_of (Transition.Idle e) = record { writes = []; answered = None; changed = false }
action_of d = quiet

-- what it completes
abbrev pub completion_of : Transition → Option Completion
completion_of (Transition.UseBuffer f xs) = Some xs
completion_of (Transition.Direct c o xs) = Some xs
completion_of (Transition.Answer k x o xs) = Some xs
completion_of (Transition.Respond c r xs) = Some xs
completion_of (Transition.Give e c xs) = Some xs
completion_of d = None
