use Rattle.std.specs.Prelude.{◌≡◌, ◌+◌, ◌<◌, vec_len}
use Rattle.std.specs.Vec.{vec_capacity}
use Rattle.handoff.specs.Seats.{Hub}
use Rattle.handoff.specs.Inner.Seats.{AreSeatsFrom}
use Rattle.workers.specs.Inner.Crew.{AreHired}
use Rattle.workers.proofs.crew.join_all.Given as goal

abbrev pub invariant-loop-worker : goal.invariant-loop-worker
invariant-loop-worker g l = record {
  seats : (h : Hub) → AreHired h 0 l.fn.hired.items → AreSeatsFrom h 0 l.seats.items × AreHired h (vec_len l.seats) l.worker-iterator.rest.items;
  count : vec_len l.seats + l.worker-iterator.rest.len ≡ vec_len l.fn.hired;
  same : vec_len l.kept ≡ vec_len l.seats;
  room : vec_len l.fn.hired < vec_capacity l.seats;
  kept_room : vec_len l.fn.hired < vec_capacity l.kept;
}
