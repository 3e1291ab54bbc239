use Rattle.std.proofs.Common.{sym, subst, arith, List, None}
use Rattle.unit_log.specs.declared.runs.Run.{Run}
use Rattle.unit_log.specs.Inner.Runs.{AreRising, AreNumbered, FindsIn}
use Rattle.unit_log.proofs.Tables.{table_is, none_next}
use Rattle.unit_log.proofs.commits.ticket_in.Goals as goal

pub number_at-requires-clause-rising : goal.number_at-requires-clause-rising
number_at-requires-clause-rising c =
    subst (AreRising 0) (sym c.as_slice.ensures.value)
    (subst (AreRising 0) (table_is c.loop-queue.queue c.args.queues.now c.index-queues-queue.result (omega arith) c.index-queues-queue.is) (c.requires.rising c.loop-queue.queue))

pub number_at-requires-clause-numbered : goal.number_at-requires-clause-numbered
number_at-requires-clause-numbered c =
    subst AreNumbered (sym c.as_slice.ensures.value)
    (subst AreNumbered (table_is c.loop-queue.queue c.args.queues.now c.index-queues-queue.result (omega arith) c.index-queues-queue.is) (c.requires.numbered c.loop-queue.queue))

pub loop-queue-preserved : goal.loop-queue-preserved
loop-queue-preserved c =
    none_next c.args.place c.loop-queue.queue c.args.queues.now c.index-queues-queue.result (omega arith) c.index-queues-queue.is c.loop-queue.invariant
    (subst (λ (rs : List Run). FindsIn c.args.place rs None) c.as_slice.ensures.value c.in_default.ensures)
