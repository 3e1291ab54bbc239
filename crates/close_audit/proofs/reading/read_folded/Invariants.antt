use Rattle.std.proofs.Common.{◌≡◌, ◌-◌, length, drop}
use Rattle.std.specs.Option.{option_map}
use Rattle.ring_core.specs.declared.log.Ticket.{Ticket}
use Rattle.close_audit.specs.Inner.Tallies.{read_commits, tally_at}
use Rattle.close_audit.proofs.reading.read_folded.Given as goal

abbrev pub invariant-loop-place : goal.invariant-loop-place
invariant-loop-place l =
    (t : Ticket) → tally_at l.tables.tables.items t ≡ option_map (read_commits t l.index (drop (length l.unit.steps - l.place) l.unit.steps)) (tally_at l.initial.tables.tables.items t)
