use Rattle.handoff.specs.Seats.{IsSeatOf, IsSameSeat}
use Rattle.unit_tests.proofs.seats.put_all.Given as goal

-- the seat stays the caller's, and one of the hand-off
abbrev pub invariant-loop-id : goal.invariant-loop-id
invariant-loop-id g l = IsSameSeat l.fn.seat l.seat × IsSeatOf l.handoff l.seat
