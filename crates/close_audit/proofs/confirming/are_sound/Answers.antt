use Rattle.ring_core.specs.Sound.{IsSound}
use Rattle.virtqueue.specs.Queue.{BareQueue}
use Rattle.close_audit.proofs.Prefixes.{each_more, each_all}
use Rattle.close_audit.proofs.confirming.are_sound.Goals as goal

pub loop-queue-preserved : goal.loop-queue-preserved
loop-queue-preserved c = each_more (λ (q : BareQueue). IsSound q.ring) c.args.queues.now c.loop-queue.queue-index c.queue-item.result c.loop-queue.invariant c.queue-item.is c.log.ensures.sound

pub returns : goal.returns
returns c = each_all (λ (q : BareQueue). IsSound q.ring) c.args.queues.now c.loop-queue.queue-index c.loop-queue.invariant c.loop-queue-test.false
