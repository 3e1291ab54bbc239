use Rattle.std.proofs.Common.{◌≡◌}
use Rattle.std.specs.Option.{option_map}
use Rattle.ring_core.specs.declared.log.Ticket.{Ticket}
use Rattle.unit_model.specs.Base.{base_of}
use Rattle.close_audit.specs.Inner.Tallies.{read, tally_at}
use Rattle.close_audit.proofs.Folding.{between}
use Rattle.close_audit.proofs.reading.read_unit.Given as goal

abbrev pub invariant-loop-place : goal.invariant-loop-place
invariant-loop-place l =
    (t : Ticket) → tally_at l.tables.tables.items t ≡ option_map (read t l.index (between (base_of l.unit.steps) l.place l.unit.steps)) (tally_at l.initial.tables.tables.items t)
