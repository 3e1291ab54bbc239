use Rattle.std.proofs.Common.{◌≡◌, ◌<◌, length, cond, Some, None}
use Rattle.ring_core.specs.declared.log.Ticket.{Ticket}
use Rattle.close_audit.specs.Settled.{is_request}
use Rattle.close_audit.specs.Inner.Tallies.{fresh, tally_at}
use Rattle.close_audit.proofs.tables.Tables.new.Given as goal

abbrev pub invariant-loop-queue : goal.invariant-loop-queue
invariant-loop-queue l =
    record {
      as_many : length l.tables.items ≡ l.queue-index;
      opened : (t : Ticket) → t.queue < l.queue-index → tally_at l.tables.items t ≡ cond (is_request l.queues t) (Some fresh) None;
    }
