use Rattle.std.proofs.Common.{ℕ, ◌<◌, length, slice_index_or}
use Rattle.shared_trace.specs.Events.{PlainMark}
use Rattle.shared_trace.specs.Inner.Logs.{IsPast, IsCounted}
use Rattle.shared_trace.proofs.closing.are_counted.Given as goal

abbrev pub invariant-loop-k : goal.invariant-loop-k
invariant-loop-k g l = record {
  seen : IsPast l.fn.front l.front;
  counted : (j : ℕ) (o : PlainMark _) → j < l.k → j < length l.marks
      → IsCounted g.L.Laws.part_of l.fn.front l.front j (slice_index_or l.marks j o);
}
