use Rattle.std.proofs.Common.{◌≡◌, ℕ, ◌+◌, sym, subst, arith, vec_len}
use Rattle.std.specs.Arc.{arc_value}
use Rattle.handoff.specs.Inner.Seats.{AreSeatsFrom}
use Rattle.workers.proofs.Crews.{hired_more, first_seat}
use Rattle.workers.proofs.crew.start_all.Goals as goal

pub loop-seat-preserved : goal.loop-seat-preserved
loop-seat-preserved g c =
    let old = c.loop-seat.invariant in
    let made = c.in-Ok.ensures in
    let steps = c.in-Some.ensures.steps in
    let len = c.push_reserved.ensures.len in
    let hub = g.W.Works.hub (arc_value c.args.shared.now) in
    let next = first_seat hub (vec_len c.loop-seat.hired) _ _ _ old.rest steps.0 in
    let left : vec_len c.push_reserved.new.self + c.next.new.self.rest.len ≡ c.len-count.result = omega (arith, len, old.count, steps.1) in
    record {
      hired = rw c.push_reserved.ensures.items (hired_more _ 0 c.loop-seat.hired.items _ old.hired made.0 (omega (arith, made.1, c.len-number.ensures)));
      rest = subst (λ (n : ℕ). AreSeatsFrom hub n c.next.new.self.rest.items) (sym len) next.2;
      count = left;
      room = omega (arith, c.push_reserved.ensures.capacity, old.room);
    }
