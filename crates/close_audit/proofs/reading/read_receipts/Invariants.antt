use Rattle.std.proofs.Common.{◌≡◌, take}
use Rattle.std.specs.List.{fold}
use Rattle.std.specs.Option.{option_map}
use Rattle.ring_core.specs.declared.log.Ticket.{Ticket}
use Rattle.unit_model.specs.Receipts.{Receipt}
use Rattle.close_audit.specs.Closed.{IsFirst}
use Rattle.close_audit.specs.Inner.Tallies.{with_receipt, tally_at}
use Rattle.close_audit.specs.Inner.Sources.{stray}
use Rattle.close_audit.proofs.reading.read_receipts.Given as goal

abbrev pub invariant-loop-receipt : goal.invariant-loop-receipt
invariant-loop-receipt l =
    record {
      tallied : (t : Ticket) → tally_at l.tables.tables.items t ≡ option_map (λ s. fold (with_receipt t) s (take l.receipt-index l.receipts)) (tally_at l.initial.tables.tables.items t);
      strays : IsFirst (stray (λ (c : Receipt). c.ticket) l.initial.tables.tables.items (take l.receipt-index l.receipts)) l.first;
    }
