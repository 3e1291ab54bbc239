use Rattle.std.proofs.Common.{◌+◌, ◌≤◌}
use Rattle.script_semantics.proofs.printing.blocks.Given as goal

abbrev pub invariant-loop-left : goal.invariant-loop-left
invariant-loop-left g l = l.at + l.left ≤ l.capacity

abbrev pub decreases-loop-left : goal.decreases-loop-left
decreases-loop-left g l = l.left
