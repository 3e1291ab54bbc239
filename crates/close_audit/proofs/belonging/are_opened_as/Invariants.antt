use Rattle.close_audit.specs.Inner.Belonging.{AreOpenedTo}
use Rattle.close_audit.proofs.belonging.are_opened_as.Given as goal

abbrev pub invariant-loop-unit_index : goal.invariant-loop-unit_index
invariant-loop-unit_index l = AreOpenedTo l.specs l.units l.unit_index
