use Rattle.std.proofs.Common.{◌<◌}
use Rattle.ring_core.specs.declared.log.Ticket.{Ticket}
use Rattle.unit_log.specs.Inner.Runs.{Stands, tables_of}
use Rattle.unit_log.proofs.commits.ticket_in.Given as goal

abbrev pub invariant-loop-queue : goal.invariant-loop-queue
invariant-loop-queue l = (t : Ticket) → t.queue < l.queue → Stands l.place t (tables_of l.queues) → ⊥
