use Rattle.std.proofs.Common.{◌≡◌, take}
use Rattle.std.specs.List.{fold}
use Rattle.std.specs.Option.{option_map}
use Rattle.ring_core.specs.declared.log.Ticket.{Ticket}
use Rattle.phases.specs.Notes.{PlainNote}
use Rattle.close_audit.specs.Closed.{IsFirst}
use Rattle.close_audit.specs.Inner.Tallies.{with_note, tally_at}
use Rattle.close_audit.specs.Inner.Sources.{stray}
use Rattle.close_audit.proofs.reading.read_notes.Given as goal

abbrev pub invariant-loop-note : goal.invariant-loop-note
invariant-loop-note l =
    record {
      tallied : (t : Ticket) → tally_at l.tables.tables.items t ≡ option_map (λ s. fold (with_note t) s (take l.note-index l.notes)) (tally_at l.initial.tables.tables.items t);
      strays : IsFirst (stray (λ (c : PlainNote). c.ticket) l.initial.tables.tables.items (take l.note-index l.notes)) l.first;
    }
