use Rattle.std.proofs.Common.{rules}
use Rattle.workers.proofs.Fetches.{gathered_more}
use Rattle.workers.proofs.gathering.queues_of.Goals as goal

-- one more queue is gathered
pub loop-lock-preserved : goal.loop-lock-preserved
loop-lock-preserved c = record {
  gathered = gathered_more _ _ _ _ _ _ _ _ _ _ c.loop-lock.invariant.gathered c.into_parts-queue.ensures.keeps c.into_parts-queue.ensures.noted c.in_default-unanswered.not-Some c.push_reserved.ensures.items c.push_reserved-in-loop-lock.ensures.items c.in-Ok.ensures;
  count = search rules;
  same = search rules;
  room = search rules;
  room_fetched = search rules;
}
