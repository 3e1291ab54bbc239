use Rattle.std.proofs.Common.{arith, vec_len}
use Rattle.workers.proofs.Crews.{join_step}
use Rattle.workers.proofs.crew.join_all.Goals as goal

pub loop-worker-preserved : goal.loop-worker-preserved
loop-worker-preserved g c =
    let old = c.loop-worker.invariant in
    let steps = c.in-Some.ensures.steps in
    let push = c.push_reserved.ensures in
    let push' = c.push_reserved-in-loop-worker.ensures in
    record {
      seats = λ h all. join_step h c.loop-worker.seats.items (vec_len c.loop-worker.seats) _ _ _ _ _ (old.seats h all) (c.loop-worker.seats.ok.0) push.len steps.0 c.join-seat.ensures.0 c.join-seat.ensures.1 _ push.items;
      count = omega (arith, push.len, old.count, steps.1);
      same = omega (arith, push.len, push'.len, old.same);
      room = omega (arith, push.capacity, old.room);
      kept_room = omega (arith, push'.capacity, old.kept_room);
    }
