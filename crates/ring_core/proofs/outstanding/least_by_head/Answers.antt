use Rattle.std.proofs.Common.{None}
use Rattle.ring_core.proofs.Least.{least_more, same_at}
use Rattle.ring_core.proofs.outstanding.least_by_head.Goals as goal

pub loop-entry-preserved : goal.loop-entry-preserved
loop-entry-preserved c =
    rw c.lesser-least.ensures
    (least_more c.args.entries.now c.loop-entry.entry-index c.loop-entry.least _ c.loop-entry.invariant (same_at c.args.entries.now c.loop-entry.entry-index None _ c.loop-entry-test.true))
