use Rattle.close_audit.specs.Inner.Belonging.{AreInPlaceTo}
use Rattle.close_audit.proofs.belonging.first_misplaced.Given as goal

abbrev pub invariant-loop-queue_index : goal.invariant-loop-queue_index
invariant-loop-queue_index l = AreInPlaceTo l.queues l.queue_index
