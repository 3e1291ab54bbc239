use Rattle.std.proofs.Common.{[], ◌∷◌, length, arith, ap, length-append}
use Rattle.handoff.proofs.Loops.{capacity_more, chiefs_more}
use Rattle.handoff.proofs.queue.open.Goals as goal

pub loop-number-preserved : goal.loop-number-preserved
loop-number-preserved c =
    let old = c.loop-number.invariant in
    let made = c.in_ok-lane.ensures in
    let n = length-append c.loop-number.lanes.items (c.in_ok-lane.lane ∷ []) in
    let lanes = ap (λ l. length l) c.push_reserved.ensures.items in
    record {
      count = omega (arith, old.count, n, lanes);
      capacity = rw c.push_reserved.ensures.items (capacity_more c.args.capacity c.loop-number.lanes.items c.in_ok-lane.lane old.capacity made.capacity);
      chiefs =
          rw (c.push_reserved.ensures.items, c.push_reserved-in-loop-number.ensures.items)
          (chiefs_more c.loop-number.lanes.items c.in_ok-lane.lane c.loop-number.chiefs.items c.in_ok-lane.chief old.chiefs made.chief);
      room = omega (arith, old.room, c.push_reserved.ensures.capacity);
      room_too = omega (arith, old.room_too, c.push_reserved-in-loop-number.ensures.capacity);
    }
