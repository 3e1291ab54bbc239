use Rattle.ring_core.specs.Sound.{IsSound}
use Rattle.virtqueue.specs.Queue.{BareQueue}
use Rattle.close_audit.proofs.Prefixes.{EachTo}
use Rattle.close_audit.proofs.confirming.are_sound.Given as goal

abbrev pub invariant-loop-queue : goal.invariant-loop-queue
invariant-loop-queue l = EachTo (λ (q : BareQueue). IsSound q.ring) l.queues l.queue-index
