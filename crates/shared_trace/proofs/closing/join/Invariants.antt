use Rattle.std.proofs.Common.{ℕ, ◌<◌, length, slice_index_or}
use Rattle.shared_trace.specs.Events.{PlainMark}
use Rattle.shared_trace.specs.Inner.Logs.{IsPast}
use Rattle.shared_trace.proofs.closing.join.Given as goal

abbrev pub invariant-loop-mark : goal.invariant-loop-mark
invariant-loop-mark g l =
    (k : ℕ) (o : PlainMark _) → k < l.mark-index → k < length l.marks → IsPast (slice_index_or l.marks k o).known l.front
