use Rattle.std.specs.Prelude.{⊤}
use Rattle.script_semantics.proofs.printing.stored.Given as goal

abbrev pub invariant-loop-left : goal.invariant-loop-left
invariant-loop-left g l = ⊤

abbrev pub decreases-loop-left : goal.decreases-loop-left
decreases-loop-left g l = l.left
