-- What a report tells of its queues.
use Rattle.std.specs.Prelude.{ℕ, cond, is_some, List}
use Rattle.std.specs.List.{list_any}
use Rattle.virtqueue.specs.Queue.{BareQueue}

-- DEVICE_NEEDS_RESET (VIRTIO 1.2, 2.1) where a queue is broken
abbrev pub status_of : List BareQueue → ℕ
status_of queues = cond (list_any (λ (q : BareQueue). is_some q.ring.broken) queues) 64 0
