use Rattle.std.specs.Prelude.{◌≡◌, ◌+◌, ◌≤◌, vec_len}
use Rattle.std.specs.Vec.{vec_capacity}
use Rattle.std.specs.Arc.{arc_value}
use Rattle.handoff.specs.Inner.Seats.{AreSeatsFrom}
use Rattle.workers.specs.Inner.Crew.{AreHired}
use Rattle.workers.proofs.crew.start_all.Given as goal

abbrev pub invariant-loop-seat : goal.invariant-loop-seat
invariant-loop-seat g l = record {
  hired : AreHired (g.W.Works.hub (arc_value l.shared)) 0 l.hired.items;
  rest : AreSeatsFrom (g.W.Works.hub (arc_value l.shared)) (vec_len l.hired) l.seat-iterator.rest.items;
  count : vec_len l.hired + l.seat-iterator.rest.len ≡ l.count;
  room : l.count ≤ vec_capacity l.hired;
}
