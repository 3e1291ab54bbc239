use Rattle.close_audit.proofs.Sourcing.{one_queue_more, all_queues}
use Rattle.close_audit.proofs.least.first_of.Goals as goal

pub loop-queue_index-preserved : goal.loop-queue_index-preserved
loop-queue_index-preserved c =
    rw c.lesser-first.ensures
    (one_queue_more c.args.queues.now c.args.folded c.args.tables.now.tables.items c.loop-queue_index.queue_index c.index-queues-queue_index.result c.loop-queue_index-test.true c.index-queues-queue_index.is
    c.loop-queue_index.first c.first_in.result c.loop-queue_index.invariant c.first_in.ensures)

pub returns : goal.returns
returns c = all_queues c.args.queues.now c.args.folded c.args.tables.now.tables.items c.loop-queue_index.queue_index c.loop-queue_index.first c.loop-queue_index-test.false c.loop-queue_index.invariant
