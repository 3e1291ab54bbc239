use Rattle.std.proofs.Common.{◌≡◌, take}
use Rattle.std.specs.Option.{option_map}
use Rattle.ring_core.specs.declared.log.Ticket.{Ticket}
use Rattle.close_audit.specs.Inner.Tallies.{with_units, tally_at}
use Rattle.close_audit.proofs.reading.read_units.Given as goal

abbrev pub invariant-loop-index : goal.invariant-loop-index
invariant-loop-index l =
    (t : Ticket) → tally_at l.tables.tables.items t ≡ option_map (with_units t 0 (take l.index l.units)) (tally_at l.initial.tables.tables.items t)
