-- What the search for an outstanding ticket finds.
use Rattle.std.specs.Prelude.{Option, Result, Ok, Err, ⊤}
use Rattle.foundation.specs.declared.NoMemory.{NoMemory}
use Rattle.ring_core.specs.declared.log.Ticket.{Ticket}
use Rattle.close_audit.specs.declared.report.Report.{Report}
use Rattle.close_audit.specs.Closed.{IsFirst, is_outstanding}

abbrev pub Finds : Report → Result (Option Ticket) NoMemory → Type 0
Finds r (Ok found) = IsFirst (is_outstanding r.units.items r.queues.items r.receipts.items r.notes.items) found
Finds r (Err refused) = ⊤
