use Rattle.std.proofs.Common.{◌<◌, length, refl, ap, ◌∙◌, arith}
use Rattle.std.proofs.lemmas.Option.{slice_get_read}
use Rattle.handoff.specs.Moves.{move}
use Rattle.handoff.specs.Seats.{Hub, PlainSeat, seat_of}
use Rattle.handoff.specs.Inner.Seats.{taking}
use Rattle.handoff.proofs.Seating.{has_one, seat_took, take_seated}
use Rattle.handoff.proofs.Holding.{queues_met, count_met, same_queue, same_took, held_as, accounts_are}
use Rattle.handoff.proofs.queue.Handoff.take_from.Goals as goal

pub take-requires-clause-at : goal.take-requires-clause-at
take-requires-clause-at g c =
    let ends = c.seat.inside.ends.items in
    let lanes = c.self.inside.lanes.items in
    let k = c.seat.inside.number in
    let from = c.args.from in
    let queues = queues_met k c.self.inside.capacity ends c.seat.inside.taken.items lanes _ _ c.seat.view_is c.self.view_is c.requires.seat in
    let count = count_met k c.self.inside.capacity ends c.seat.inside.taken.items lanes _ _ c.seat.view_is c.self.view_is c.requires.seat in
    let many = ap (λ (h : Hub). h.seats) c.self.view_is in
    let within : from < length lanes = omega (arith, many, c.requires.there) in
    let at = slice_get_read ends (length ends) from c.index_mut.result.now refl (omega (arith, count, within)) c.index_mut.ensures.value in
    let lane = slice_get_read lanes (length lanes) from c.index.result.now refl within c.index.ensures in
    same_queue lanes ends from _ _ queues lane at

pub take-requires-clause-one : goal.take-requires-clause-one
take-requires-clause-one g c =
    let ends = c.seat.inside.ends.items in
    let lanes = c.self.inside.lanes.items in
    let k = c.seat.inside.number in
    let from = c.args.from in
    let count = count_met k c.self.inside.capacity ends c.seat.inside.taken.items lanes _ _ c.seat.view_is c.self.view_is c.requires.seat in
    let many = ap (λ (h : Hub). h.seats) c.self.view_is in
    let within : from < length ends = omega (arith, many, count, c.requires.there) in
    let at = slice_get_read ends (length ends) from c.index_mut.result.now refl within c.index_mut.ensures.value in
    has_one from (seat_of k ends c.seat.inside.taken.items) ends _ c.seat.invariant at

pub returns-in_default-clause-empty : goal.returns-in_default-clause-empty
returns-in_default-clause-empty g c =
    let ends = c.seat.inside.ends.items in
    let lanes = c.self.inside.lanes.items in
    let taken = c.seat.inside.taken.items in
    let k = c.seat.inside.number in
    let from = c.args.from in
    let p = c.index_mut.result.now in
    let count = count_met k c.self.inside.capacity ends taken lanes _ _ c.seat.view_is c.self.view_is c.requires.seat in
    let many = ap (λ (h : Hub). h.seats) c.self.view_is in
    let within : from < length ends = omega (arith, many, count, c.requires.there) in
    let at = slice_get_read ends (length ends) from p refl within c.index_mut.ensures.value in
    held_as 0 0 p.knows.accounts _ refl
    (accounts_are from (seat_of k ends taken) c.args.seat.now p (c.seat.invariant.each from p at) c.seat.view_is)
    c.in_default.ensures.empty

pub invariant_of-seat-2 : goal.invariant_of-seat-2
invariant_of-seat-2 g c =
    let ends = c.seat.inside.ends.items in
    let lanes = c.self.inside.lanes.items in
    let taken = c.seat.inside.taken.items in
    let k = c.seat.inside.number in
    let from = c.args.from in
    let p = c.index_mut.result.now in
    let count = count_met k c.self.inside.capacity ends taken lanes _ _ c.seat.view_is c.self.view_is c.requires.seat in
    let many = ap (λ (h : Hub). h.seats) c.self.view_is in
    let within : from < length ends = omega (arith, many, count, c.requires.there) in
    let at = slice_get_read ends (length ends) from p refl within c.index_mut.ensures.value in
    take_seated k ends taken c.in-Some.job from p c.take.new.end c.seat.invariant at c.in-Some.ensures.taken
    c.push.new.self.items _ c.push.ensures (ap (λ j. move from j) c.of.ensures)

pub returns-clause-seat : goal.returns-clause-seat
returns-clause-seat g c =
    let ends = c.seat.inside.ends.items in
    let lanes = c.self.inside.lanes.items in
    let taken = c.seat.inside.taken.items in
    let k = c.seat.inside.number in
    let from = c.args.from in
    let p = c.index_mut.result.now in
    let count = count_met k c.self.inside.capacity ends taken lanes _ _ c.seat.view_is c.self.view_is c.requires.seat in
    let many = ap (λ (h : Hub). h.seats) c.self.view_is in
    let within : from < length ends = omega (arith, many, count, c.requires.there) in
    let at = slice_get_read ends (length ends) from p refl within c.index_mut.ensures.value in
    same_took from _ _ c.in-Some.job
    (seat_took k ends taken c.in-Some.job from p c.take.new.end c.seat.invariant at c.in-Some.ensures.taken
    c.push.new.self.items _ c.push.ensures (ap (λ j. move from j) c.of.ensures)
    ∙ ap (λ (z : PlainSeat). taking from z c.in-Some.job) c.seat.view_is)

pub returns-clause-taken : goal.returns-clause-taken
returns-clause-taken g c =
    let ends = c.seat.inside.ends.items in
    let lanes = c.self.inside.lanes.items in
    let taken = c.seat.inside.taken.items in
    let k = c.seat.inside.number in
    let from = c.args.from in
    let p = c.index_mut.result.now in
    let count = count_met k c.self.inside.capacity ends taken lanes _ _ c.seat.view_is c.self.view_is c.requires.seat in
    let many = ap (λ (h : Hub). h.seats) c.self.view_is in
    let within : from < length ends = omega (arith, many, count, c.requires.there) in
    let at = slice_get_read ends (length ends) from p refl within c.index_mut.ensures.value in
    seat_took k ends taken c.in-Some.job from p c.take.new.end c.seat.invariant at c.in-Some.ensures.taken
    c.push.new.self.items _ c.push.ensures (ap (λ j. move from j) c.of.ensures)
    ∙ ap (λ (z : PlainSeat). taking from z c.in-Some.job) c.seat.view_is
