-- What came of a job is written, and its chain is used.
use Rattle.std.specs.Prelude.{ℕ, ◌≡◌, List}
use Rattle.ring_core.specs.Writes.{all_written}
use Rattle.unit_model.specs.Jobs.{PlainJob}
use Rattle.device_model.specs.Parts.{Outcome, Completion, IsSeen, Hand, lengths_of, bytes_of, answer_writes}
use Rattle.device_model.specs.World.{PlainQueue, PlainWorld, change}
use Rattle.device_model.specs.Found.{QueueIs, SeatIs}
use Rattle.device_model.specs.Changing.{with_hand, completed}

pub record Answers (w : PlainWorld) (k : ℕ) (x : PlainJob) (o : Outcome) (xs : Completion) : Type 0 where
  pub out : List PlainJob
  pub seat : SeatIs w k (Hand.Done x o) out
  pub queue : PlainQueue
  pub there : QueueIs w x.chain.ticket.queue queue
  pub writes : xs.writes ≡ answer_writes queue.ring x.chain (bytes_of (lengths_of x.chain) o)
  pub seen : IsSeen w.shared (all_written w.memory xs.writes) xs.seen

-- the answer was written, the chain used: the task is to leave
abbrev pub after_answer : ℕ → PlainJob → Outcome → Completion → PlainWorld → PlainWorld
after_answer k x o xs w =
    record w {
      seats = change (with_hand (Hand.Answered x.unit x.chain.ticket)) k w.seats;
      queues = completed x.chain xs w;
      memory = all_written w.memory xs.writes;
    }
