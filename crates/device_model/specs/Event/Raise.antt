-- An event goes into the oldest buffer that the device holds, or is missed.
use Rattle.std.specs.Prelude.{◌≡◌, true, List, [], ◌∷◌, drop}
use Rattle.scsi_codec.specs.declared.event_queue.Event.{Event as EventRecord}
use Rattle.scsi_codec.specs.EventQueue.{event_bytes}
use Rattle.ring_core.specs.State.{PlainChain}
use Rattle.ring_core.specs.Writes.{all_written}
use Rattle.device_model.specs.Parts.{Completion, IsSeen, answer_writes}
use Rattle.device_model.specs.World.{PlainQueue, PlainWorld}
use Rattle.device_model.specs.Found.{QueueIs}
use Rattle.device_model.specs.Changing.{completed}

pub record Gives (w : PlainWorld) (e : EventRecord) (c : PlainChain) (xs : Completion) : Type 0 where
  pub later : List EventRecord
  pub waits : w.waiting ≡ e ∷ later
  pub more : List PlainChain
  pub held : w.buffers ≡ c ∷ more
  pub queue : PlainQueue
  pub there : QueueIs w c.ticket.queue queue
  pub writes : xs.writes ≡ answer_writes queue.ring c (event_bytes e)
  pub seen : IsSeen w.shared (all_written w.memory xs.writes) xs.seen

-- the event was written, its buffer used
abbrev pub after_give : EventRecord → PlainChain → Completion → PlainWorld → PlainWorld
after_give e c xs w =
    record w {
      queues = completed c xs w;
      memory = all_written w.memory xs.writes;
      buffers = drop 1 w.buffers;
      waiting = drop 1 w.waiting;
    }

pub record Misses (w : PlainWorld) (e : EventRecord) : Type 0 where
  pub later : List EventRecord
  pub waits : w.waiting ≡ e ∷ later
  pub none : w.buffers ≡ []

-- the driver is to be told that events were missed
abbrev pub after_miss : EventRecord → PlainWorld → PlainWorld
after_miss e w = record w { missed = true; waiting = drop 1 w.waiting }
