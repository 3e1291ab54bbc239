use Rattle.std.proofs.Common.{◌≡◌, take}
use Rattle.std.specs.Option.{option_map}
use Rattle.ring_core.specs.declared.log.Ticket.{Ticket}
use Rattle.unit_model.specs.Steps.{alive}
use Rattle.close_audit.specs.Inner.Tallies.{read_alive, tally_at}
use Rattle.close_audit.proofs.reading.read_alive.Given as goal

abbrev pub invariant-loop-number : goal.invariant-loop-number
invariant-loop-number l =
    (t : Ticket) → tally_at l.tables.tables.items t ≡ option_map (read_alive t (take l.number (alive l.unit.steps))) (tally_at l.initial.tables.tables.items t)
