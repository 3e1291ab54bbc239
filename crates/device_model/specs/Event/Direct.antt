-- A chain is answered that needs no unit.
use Rattle.std.specs.Prelude.{◌≡◌}
use Rattle.ring_core.specs.State.{PlainChain}
use Rattle.ring_core.specs.Writes.{all_written}
use Rattle.device_model.specs.Parts.{Outcome, Completion, IsSeen, Slot, lengths_of, bytes_of, answer_writes}
use Rattle.device_model.specs.World.{PlainQueue, PlainWorld, change}
use Rattle.device_model.specs.Found.{QueueIs}
use Rattle.device_model.specs.Changing.{directing}

pub record Directs (w : PlainWorld) (c : PlainChain) (o : Outcome) (xs : Completion) : Type 0 where
  pub queue : PlainQueue
  pub there : QueueIs w c.ticket.queue queue
  pub ready : queue.slot ≡ Slot.Direct c o
  pub writes : xs.writes ≡ answer_writes queue.ring c (bytes_of (lengths_of c) o)
  pub seen : IsSeen w.shared (all_written w.memory xs.writes) xs.seen

-- the answer was written, the chain used
abbrev pub after_direct : PlainChain → Outcome → Completion → PlainWorld → PlainWorld
after_direct c o xs w =
    record w {
      queues = change (directing xs.seen c) c.ticket.queue w.queues;
      memory = all_written w.memory xs.writes;
    }
