-- A virtqueue as one lock lends it, beside its slot.
use Rattle.virtqueue.specs.Queue.{BareQueue}
use Rattle.device_model.specs.Parts.{Slot}
use Rattle.device_model.specs.World.{PlainQueue}

-- with what stands in its slot
abbrev pub with_slot : Slot → BareQueue → PlainQueue
with_slot s q = record { ring = q.ring; slot = s; notices = q.notices }
