-- A request that arrived becomes a task of its unit, or is refused there.
use Rattle.std.specs.Prelude.{◌≡◌, ◌≤◌, Bool, [], ◌∷◌, Some, slice_get}
use Rattle.unit_model.specs.Tasks.{is_blocked}
use Rattle.unit_model.specs.Steps.{Step, alive, next_number}
use Rattle.unit_model.specs.Jobs.{PlainJob}
use Rattle.unit_model.specs.Unit.{PlainUnit, after as stepped, parking}
use Rattle.unit_model.specs.Asking.{IsNamed, IsMisdelivered}
use Rattle.device_model.specs.Parts.{Outcome, Slot}
use Rattle.device_model.specs.World.{PlainQueue, Seat, PlainWorld, owner, change}
use Rattle.unit_model.specs.Endings.{Ending}
use Rattle.device_model.specs.Found.{QueueIs, UnitIs, MayStep}
use Rattle.device_model.specs.Changing.{slotted, with_jobs}

-- a request that arrived, its unit, and its owner's seat
pub record Comes (w : PlainWorld) (x : PlainJob) : Type 0 where
  pub queue : PlainQueue
  pub there : QueueIs w x.chain.ticket.queue queue
  pub arrived : queue.slot ≡ Slot.Arrived x
  pub unit : PlainUnit
  pub unit_there : UnitIs w x.unit unit
  pub seat : Seat
  pub seat_there : slice_get w.seats (owner w.workers x.chain.ticket.queue) ≡ Some seat

pub record Enters (w : PlainWorld) (x : PlainJob) (parks : Bool) : Type 0 where
  pub comes : Comes w x
  pub named : IsNamed x comes.unit
  pub may : MayStep comes.unit (Step.Enter x.entry)
  pub blocked : is_blocked x.entry (alive (Step.Enter x.entry ∷ comes.unit.steps)) ≡ parks

-- the request is a task, and its owner's seat has the job
abbrev pub after_run : PlainJob → PlainWorld → PlainWorld
after_run x w =
    record w {
      queues = change (slotted Slot.Empty) x.chain.ticket.queue w.queues;
      units = change (stepped (Step.Enter x.entry)) x.unit w.units;
      seats = change (with_jobs (x ∷ [])) (owner w.workers x.chain.ticket.queue) w.seats;
    }

-- the request is a task, and its job waits at the unit
abbrev pub after_park : PlainJob → PlainWorld → PlainWorld
after_park x w =
    record w {
      queues = change (slotted Slot.Empty) x.chain.ticket.queue w.queues;
      units = change (parking x) x.unit w.units;
    }

pub record EntersFull (w : PlainWorld) (x : PlainJob) : Type 0 where
  pub comes : Comes w x
  pub named : IsNamed x comes.unit
  pub may : MayStep comes.unit (Step.Full x.entry.ticket)

-- TASK SET FULL is to be answered
abbrev pub after_enter_full : PlainJob → PlainWorld → PlainWorld
after_enter_full x w =
    record w {
      queues = change (slotted (Slot.Direct x.chain (Outcome.Ended Ending.Full))) x.chain.ticket.queue w.queues;
      units = change (stepped (Step.Full x.entry.ticket)) x.unit w.units;
    }

-- memory was refused, which only a ticket that isn't stale asks for
pub record EntersBusy (w : PlainWorld) (x : PlainJob) : Type 0 where
  pub comes : Comes w x
  pub named : IsNamed x comes.unit
  pub fresh : next_number x.entry.ticket.queue comes.unit.steps ≤ x.entry.ticket.number

-- BUSY is to be answered
abbrev pub after_enter_busy : PlainJob → PlainWorld → PlainWorld
after_enter_busy x w =
    record w {
      queues = change (slotted (Slot.Direct x.chain (Outcome.Ended Ending.Busy))) x.chain.ticket.queue w.queues;
    }

pub record EntersStale (w : PlainWorld) (x : PlainJob) : Type 0 where
  pub comes : Comes w x
  pub stale : IsMisdelivered x comes.unit

-- FAILURE is to be answered
abbrev pub after_enter_stale : PlainJob → PlainWorld → PlainWorld
after_enter_stale x w =
    record w {
      queues = change (slotted (Slot.Direct x.chain (Outcome.Ended Ending.Lost))) x.chain.ticket.queue w.queues;
    }
