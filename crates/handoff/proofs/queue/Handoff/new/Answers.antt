use Rattle.std.proofs.Common.{◌≡◌, ◌<◌, ◌+◌, ℕ, length, arith, ap, refl, ◌∙◌}
use Rattle.handoff.specs.Inner.Rule.{newcomer}
use Rattle.handoff.specs.Seats.{PlainSeat}
use Rattle.handoff.specs.Lanes.{hub_of}
use Rattle.handoff.specs.Inner.Lanes.{at_each, lead}
use Rattle.handoff.proofs.Seating.{seats_snoc, new_snoc, newcomer_is, lead_is, made_seat, made_seated}
use Rattle.handoff.proofs.queue.Handoff.new.Goals as goal

pub invariant_of-push_reserved : goal.invariant_of-push_reserved
invariant_of-push_reserved c =
    let lanes = c.in_ok-lanes.lanes.items in
    let n = c.loop-number.number in
    let some : 0 < n = omega (arith, c.loop-number.invariant.count) in
    let within : n < length lanes = omega (arith, c.loop-number-test.true, c.in_ok-lanes.ensures.count) in
    made_seated (newcomer (lead n)) lanes c.as_slice.result.now c.in_ok-ends.ends.items c.new.result.items n
    c.as_slice.ensures.value c.in_ok-ends.ensures.ends c.new.ensures within (λ q. newcomer_is lanes n some q)

pub loop-number-preserved : goal.loop-number-preserved
loop-number-preserved c =
    let old = c.loop-number.invariant in
    let lanes = c.in_ok-lanes.lanes.items in
    let n = c.loop-number.number in
    let some : 0 < n = omega (arith, old.count) in
    let within : n < length lanes = omega (arith, c.loop-number-test.true, c.in_ok-lanes.ensures.count) in
    let is =
    made_seat (newcomer (lead n)) lanes c.as_slice.result.now c.in_ok-ends.ends.items c.new.result.items n
    c.as_slice.ensures.value c.in_ok-ends.ensures.ends c.new.ensures within (λ q. newcomer_is lanes n some q) in
    record {
      chiefs = c.in_ok-ends.ensures.chiefs ∙ ap (λ ls. at_each (lead (n + 1)) ls) c.as_slice.ensures.value;
      seats =
          rw c.push_reserved.ensures.items
          (seats_snoc (hub_of c.args.capacity lanes) 1 c.loop-number.all.items _ old.seats
          (record { queues = ap (λ (s : PlainSeat). s.queues) is; seats = ap (λ (s : PlainSeat). s.seats) is })
          (omega (arith, old.count)));
      new =
          rw c.push_reserved.ensures.items
          (new_snoc c.loop-number.all.items _ old.new (ap (λ (s : PlainSeat). s.put) is) (ap (λ (s : PlainSeat). s.taken) is));
      count = omega (arith, old.count, c.push_reserved.ensures.len);
      room = omega (arith, old.room, c.push_reserved.ensures.capacity);
    }

pub invariant_of-first : goal.invariant_of-first
invariant_of-first c =
    let lanes = c.in_ok-lanes.lanes.items in
    let n : c.loop-number.number ≡ length lanes = omega (arith, c.requires.1, c.loop-number.auto.number-end, c.loop-number-test.false, c.in_ok-lanes.ensures.count) in
    made_seated (lead (length lanes)) lanes lanes c.loop-number.chiefs.items c.new-2.result.items 0 refl
    (c.loop-number.invariant.chiefs ∙ ap (λ (k : ℕ). at_each (lead k) lanes) n) c.new-2.ensures
    (omega (arith, c.requires.1, c.in_ok-lanes.ensures.count)) (λ q. lead_is lanes q)

pub returns-clause-all : goal.returns-clause-all
returns-clause-all c =
    let lanes = c.in_ok-lanes.lanes.items in
    let old = c.loop-number.invariant in
    let n : c.loop-number.number ≡ length lanes = omega (arith, c.requires.1, c.loop-number.auto.number-end, c.loop-number-test.false, c.in_ok-lanes.ensures.count) in
    let is =
    made_seat (lead (length lanes)) lanes lanes c.loop-number.chiefs.items c.new-2.result.items 0 refl
    (old.chiefs ∙ ap (λ (k : ℕ). at_each (lead k) lanes) n) c.new-2.ensures
    (omega (arith, c.requires.1, c.in_ok-lanes.ensures.count)) (λ q. lead_is lanes q) in
    rw c.in-Ok.ensures.items record {
      in_order = (
        record { queues = ap (λ (s : PlainSeat). s.queues) is; seats = ap (λ (s : PlainSeat). s.seats) is },
        refl,
        old.seats,
      );
      count = omega (arith, old.count, n);
    }

pub returns-clause-new : goal.returns-clause-new
returns-clause-new c =
    let lanes = c.in_ok-lanes.lanes.items in
    let old = c.loop-number.invariant in
    let n : c.loop-number.number ≡ length lanes = omega (arith, c.requires.1, c.loop-number.auto.number-end, c.loop-number-test.false, c.in_ok-lanes.ensures.count) in
    let is =
    made_seat (lead (length lanes)) lanes lanes c.loop-number.chiefs.items c.new-2.result.items 0 refl
    (old.chiefs ∙ ap (λ (k : ℕ). at_each (lead k) lanes) n) c.new-2.ensures
    (omega (arith, c.requires.1, c.in_ok-lanes.ensures.count)) (λ q. lead_is lanes q) in
    rw c.in-Ok.ensures.items (ap (λ (s : PlainSeat). s.put) is, ap (λ (s : PlainSeat). s.taken) is, old.new)
