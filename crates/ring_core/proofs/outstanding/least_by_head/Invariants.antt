use Rattle.ring_core.specs.Inner.Table.{IsLeastBelow}
use Rattle.ring_core.proofs.outstanding.least_by_head.Given as goal

abbrev pub invariant-loop-entry : goal.invariant-loop-entry
invariant-loop-entry l = IsLeastBelow l.entries l.entry-index l.least
