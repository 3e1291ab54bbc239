-- What answers the chains of a reached device.
use Rattle.std.specs.Prelude.{ℕ, ◌≡◌, ◌≤◌, ◌+◌, ◌⊎◌, List, ◌∷◌, Some}
use Rattle.std.specs.List.{sum_by}
use Rattle.command_model.specs.PlainReply.{PlainReply}
use Rattle.ring_core.specs.State.{PlainChain}
use Rattle.ring_core.specs.declared.log.Ticket.{Ticket}
use Rattle.unit_model.specs.declared.reason.Reason.{Reason}
use Rattle.unit_model.specs.Tasks.{Entry}
use Rattle.unit_model.specs.Steps.{Step}
use Rattle.unit_model.specs.Marks.{mark_of}
use Rattle.unit_model.specs.Contents.{Opening, MayReply}
use Rattle.unit_model.specs.Lawful.{IsReady}
use Rattle.unit_model.specs.Endings.{Ending}
use Rattle.unit_model.specs.Jobs.{PlainJob}
use Rattle.unit_model.specs.Unit.{PlainUnit}
use Rattle.device_model.specs.Parts.{Completion, PlainFetch, Outcome, lengths_of, bytes_of, answer_writes}
use Rattle.device_model.specs.World.{PlainQueue, PlainWorld}
use Rattle.device_model.specs.Transitions.{Transition}
use Rattle.device_model.specs.Found.{QueueIs, UnitIs}
use Rattle.device_model.specs.Event.Fetch.{IsDirect}
use Rattle.device_model.specs.Happens.{world_of}
use Rattle.device_model.specs.Places.{used_count, only}
use Rattle.device_model.specs.Weights.{uses, directs, answers}
use Rattle.device_model.specs.Happened.{Happened, IsBeginning, IsFetch, IsShed, IsAnswer}
use Rattle.device_model.specs.Histories.{Stands, StandsOn, history_of}
use Rattle.device_model.specs.Entering.{IsJobOf}

-- the command of the task ran where it was ready, and replied as the history before it says, or that the medium can't be read
abbrev pub IsReplied : Opening → Entry → PlainReply → List Step → Type 0
IsReplied o e r h = StandsOn (Step.Commit e.ticket r) (λ past. IsReady e.ticket e past × MayReply o e past r) h

-- the request of a job ended so: its command ran, and this was the reply; it is marked, for this reason first; its unit
-- was full; it was refused memory by its unit, at its Enter or at its Commit
abbrev pub HasEnded : PlainWorld → PlainJob → Ending → List Transition → Type 0
HasEnded old x (Ending.Replied r) ds =
    (u : PlainUnit) × UnitIs old x.unit u × IsReplied u.opening x.entry r (history_of x.unit ds)
HasEnded old x (Ending.Aborted why) ds =
    Stands (Step.Enter x.entry) (history_of x.unit ds) × (mark_of x.entry.ticket (history_of x.unit ds) ≡ Some why)
HasEnded old x Ending.Full ds = Stands (Step.Full x.entry.ticket) (history_of x.unit ds)
HasEnded old x Ending.Busy ds = Stands (Step.Busy x.entry.ticket) (history_of x.unit ds) ⊎ Happened (IsShed x) ds
HasEnded old x Ending.Lost ds = ⊥

-- what an outcome tells of the fetched chain is so: its bytes are the direct answer, or its job's request ended so
abbrev pub IsTrue : PlainWorld → PlainFetch → Outcome → List Transition → Type 0
IsTrue old f (Outcome.Decided a) ds = IsDirect old.inventory f.chain.ticket.queue f a
IsTrue old f (Outcome.Ended ending) ds = (x : PlainJob) × IsJobOf old.inventory f x × HasEnded old x ending ds

-- the chain is that of a Fetch; the writes are those of the outcome's bytes in its queue as it is before the answer;
-- and what they tell is true by then
pub record IsAnsweredSo (old : PlainWorld) (past : List Transition) (c : PlainChain) (o : Outcome) (xs : Completion)
    : Type 0 where
  pub fetch : PlainFetch
  pub fetched : Happened (IsFetch fetch) past
  pub chain : fetch.chain ≡ c
  pub queue : PlainQueue
  pub there : QueueIs (world_of old past) c.ticket.queue queue
  pub writes : xs.writes ≡ answer_writes queue.ring c (bytes_of (lengths_of c) o)
  pub truth : IsTrue old fetch o past

-- the task of a ticket has a Commit in no history
abbrev pub NeverRan : Ticket → List Transition → Type 0
NeverRan t ds = (unit_index : ℕ) (r : PlainReply) → Stands (Step.Commit t r) (history_of unit_index ds) → ⊥

-- each used ticket of a request queue has one answer, from its queue's slot or from a hand; each answer tells what is
-- so, and who was told that its task was aborted never ran
pub record AreAnswered (old : PlainWorld) (ds : List Transition) (w : PlainWorld) : Type 0 where
  pub used : (p : Ticket → ℕ) → used_count p w ≡ sum_by (uses p) ds
  pub request : (t : Ticket) → 2 ≤ t.queue
      → used_count (only t) w ≡ sum_by (directs (only t)) ds + sum_by (answers (only t)) ds
  pub once : (t : Ticket) → sum_by (directs (only t)) ds + sum_by (answers (only t)) ds ≤ 1
  pub told : (t : Ticket) → 2 ≤ t.queue → 1 ≤ used_count (only t) w → Happened (IsAnswer t) ds
  pub direct : (c : PlainChain) (o : Outcome) (xs : Completion) (past : List Transition)
      → IsBeginning (Transition.Direct c o xs ∷ past) ds → IsAnsweredSo old past c o xs
  pub answer : (k : ℕ) (x : PlainJob) (o : Outcome) (xs : Completion) (past : List Transition)
      → IsBeginning (Transition.Answer k x o xs ∷ past) ds → IsAnsweredSo old past x.chain o xs
  pub aborted : (k : ℕ) (x : PlainJob) (why : Reason) (xs : Completion) (past : List Transition)
      → IsBeginning (Transition.Answer k x (Outcome.Ended (Ending.Aborted why)) xs ∷ past) ds → NeverRan x.chain.ticket ds
