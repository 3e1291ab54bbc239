-- The open function is answered.
use Rattle.std.specs.Prelude.{◌≡◌, [], Some, None}
use Rattle.scsi_codec.specs.ControlQueue.{function_bytes}
use Rattle.scsi_codec.specs.declared.control_queue.FunctionResponse.{FunctionResponse}
use Rattle.ring_core.specs.State.{PlainChain}
use Rattle.ring_core.specs.Writes.{all_written}
use Rattle.task_mgmt.specs.Functions.{response_of}
use Rattle.device_model.specs.Parts.{Completion, IsSeen, answer_writes}
use Rattle.device_model.specs.World.{PlainQueue, Opened, PlainWorld}
use Rattle.device_model.specs.Found.{QueueIs}
use Rattle.device_model.specs.Changing.{completed}
use Rattle.device_model.specs.Event.Check.{IsWaiting}

pub record Responds (w : PlainWorld) (c : PlainChain) (r : FunctionResponse) (xs : Completion) : Type 0 where
  pub waiting : IsWaiting w c.ticket []
  pub chain : waiting.opened.chain ≡ c
  pub response : r ≡ response_of waiting.opened.function
  pub queue : PlainQueue
  pub there : QueueIs w c.ticket.queue queue
  pub writes : xs.writes ≡ answer_writes queue.ring c (function_bytes r)
  pub seen : IsSeen w.shared (all_written w.memory xs.writes) xs.seen

-- the response was written, the chain used
abbrev pub after_respond : PlainChain → FunctionResponse → Completion → PlainWorld → PlainWorld
after_respond c r xs w =
    record w { queues = completed c xs w; memory = all_written w.memory xs.writes; function = None }

-- a function whose marks are all clear
pub record MayRespond (w : PlainWorld) : Type 0 where
  pub opened : Opened
  pub there : w.function ≡ Some opened
  pub left : opened.function.left ≡ []
  pub still : opened.function.waits ≡ []
