-- The promise: what holds of every trace of the device, whatever its guest wrote and in whatever order its steps came.
use Rattle.std.specs.Prelude.{◌≡◌, ◌+◌, ◌≤◌, List, map}
use Rattle.ring_core.specs.State.{IsLawful}
use Rattle.ring_core.specs.declared.log.Ticket.{Ticket}
use Rattle.device_model.specs.World.{PlainWorld, Everywhere}
use Rattle.device_model.specs.Transitions.{Transition}
use Rattle.device_model.specs.Happens.{Occurrence, Reached, Leads, transitions_of, occurrence_of, world_of}
use Rattle.device_model.specs.Laws.{memory_after}
use Rattle.device_model.specs.Places.{accepted_count, standing_count, used_count, only}
use Rattle.device_model.specs.Standing.{AreOwned}
use Rattle.device_model.specs.Happened.{IsBeginning, NoneIsLost}
use Rattle.device_model.specs.Histories.{AreHistories}
use Rattle.device_model.specs.Entering.{AreEntered}
use Rattle.device_model.specs.Answering.{AreAnswered}
use Rattle.device_model.specs.Ordering.{AreInOrder}
use Rattle.device_model.specs.Functions.{AreOver}
use Rattle.device_model.specs.EventBuffers.{AreEvents}

-- the log of each queue is lawful: accepted numbers are 0, 1, 2 and so on, used tickets are distinct and accepted
abbrev pub AreLogs : PlainWorld → Type 0
AreLogs w = Everywhere (λ i q. IsLawful i q.ring.log) w.queues

-- an accepted chain stands in one place of the device, or was used once; no other stands anywhere or was used
pub record StandOnce (w : PlainWorld) : Type 0 where
  pub stands : (t : Ticket) → accepted_count (only t) w ≡ standing_count (only t) w + used_count (only t) w
  pub once : (t : Ticket) → standing_count (only t) w + used_count (only t) w ≤ 1

-- the trace is that of these transitions, which lead from the opening to the world, each where it may happen
pub record AreTransitions (old : PlainWorld) (trace : List Occurrence) (w : PlainWorld) (ds : List Transition) : Type 0 where
  pub told : trace ≡ map occurrence_of ds
  pub lead : Leads old ds
  pub world : w ≡ world_of old ds

-- what the transitions of a trace keep, from the opening to the world
pub record IsKept (old : PlainWorld) (trace : List Occurrence) (w : PlainWorld) (ds : List Transition) : Type 0 where
  -- each event of the trace did one transition, or could do none
  pub transitions : AreTransitions old trace w ds
  -- the history of each unit is lawful, and is the one that the transitions tell
  pub histories : AreHistories old ds w
  -- each accepted chain is fetched once, and enters at most once, as what was decided of the bytes that stood there
  -- then
  pub entered : AreEntered old ds w
  -- each used chain of a request queue has one answer, and it tells what is so
  pub answers : AreAnswered old ds w
  -- each accepted chain is used at most once, and stands in one place until then
  pub logs : AreLogs w
  pub chains : StandOnce w
  -- of two commands of a unit, the second fetched after the first was answered, the first ran first
  pub order : AreInOrder ds
  -- a function is answered after all tasks that it met were answered and have left
  pub functions : AreOver old ds
  -- memory is the opening memory with the writes of the trace in order
  pub memory : w.memory ≡ memory_after old.memory trace
  -- no unit is asked for a task that it doesn't have, and at every moment each queue owns the chains that stand
  -- somewhere
  pub none_lost : NoneIsLost ds
  pub owned : (past : List Transition) → IsBeginning past ds → AreOwned (world_of old past)
  -- each event goes into the oldest buffer, or is missed, which the next one tells
  pub events : AreEvents old ds w

-- the promise is kept by a trace that reached the world
abbrev pub IsPromised : (old : PlainWorld) (trace : List Occurrence) (w : PlainWorld) → Reached old trace w → Type 0
IsPromised old trace w r = IsKept old trace w (transitions_of old trace w r.runs)
