use Rattle.std.proofs.Common.{◌&&◌, ltb}
use Rattle.close_audit.specs.Closed.{IsFirst}
use Rattle.close_audit.specs.Inner.Sources.{amiss_of}
use Rattle.close_audit.proofs.least.first_of.Given as goal

abbrev pub invariant-loop-queue_index : goal.invariant-loop-queue_index
invariant-loop-queue_index l = IsFirst (λ t. ltb t.queue l.queue_index && amiss_of l.queues l.folded l.tables.tables.items t) l.first
