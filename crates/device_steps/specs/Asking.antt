-- What the device asks the driver of a queue for.
use Rattle.std.specs.Prelude.{ℕ, List, slice_get, Option, Some, None}
use Rattle.ring_core.specs.Writes.{Write}
use Rattle.ring_core.specs.Asking.{asking}
use Rattle.ring_core.specs.declared.asking.Notify.{Notify}
use Rattle.device_model.specs.World.{PlainQueue}

-- what is written for a queue, if it is there; for one that is broken it is nothing
abbrev pub asking_of : Option PlainQueue → Notify → Option Write
asking_of None notify = None
asking_of (Some q) notify = asking q.ring notify

-- what is written for the queue of this number
abbrev pub asking_at : List PlainQueue → ℕ → Notify → Option Write
asking_at queues number notify = asking_of (slice_get queues number) notify
