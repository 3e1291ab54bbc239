use denote.Param.Send.{sendable}
use Rattle.handoff.proofs.Crossing.{seat_sends}
use Rattle.unit_tests.proofs.seats.may_go.Goals as goal

pub goes_to_a_thread-requires-send-T : goal.goes_to_a_thread-requires-send-T
goes_to_a_thread-requires-send-T c κs = search (sendable, seat_sends)
