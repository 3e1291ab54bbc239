use Rattle.std.proofs.Common.{◌≡◌, ◌<◌, ℕ, [], ◌∷◌, length, ap, sym, ◌∙◌, subst, arith}
use Rattle.std.proofs.lemmas.List.{nil_from_length, length-map}
use Rattle.handoff.specs.Inner.Moves.{AreSettled}
use Rattle.handoff.specs.Ends.{PlainEnd}
use Rattle.handoff.specs.Seats.{PlainSeat}
use Rattle.handoff.specs.Inner.Seats.{AreSeatsFrom, IsSeated, HandedOver}
use Rattle.handoff.proofs.Lists.{stands_at}
use Rattle.handoff.proofs.Gathering.{AreBelow, gather_start, gather_more, has_column, knows_all, all_below, handed_over}
use Rattle.handoff.proofs.Even.{gathered}
use Rattle.handoff.proofs.queue.Handoff.gather.Goals as goal

pub returns-in_default : goal.returns-in_default
returns-in_default c =
    let none : c.args.seats.items ≡ [] = nil_from_length _ (sym c.args.seats.ok.0 ∙ sym c.into_iter-seats.ensures.len ∙ c.in_default.ensures.cases.0) in
    rw none (λ q. [], gathered c.args.self.now [] (λ q. []) tt tt (λ q lt. absurd (omega (arith, lt))))

pub loop-seat-init : goal.loop-seat-init
loop-seat-init c =
    let ends = c.first.inside.ends.items in
    let items : c.args.seats.items ≡ c.in-Some.first ∷ c.into_iter-seat-iterator.result.rest.items = cc (c.in-Some.ensures.items, c.into_iter-seats.ensures.rest, c.into_iter-seat-iterator.ensures.into_iter_gives) in
    gather_start c.args.self.now c.in-Some.first _ c.args.seats.items ends
    (subst (λ (z : PlainSeat). IsSeated z ends) c.first.view_is c.first.invariant)
    (ap (λ (z : PlainSeat). z.queues) c.first.view_is) c.requires.in_order items

pub loop-seat-preserved : goal.loop-seat-preserved
loop-seat-preserved c =
    let ends = c.seat.inside.ends.items in
    gather_more c.args.self.now c.in-Some-seat.seat _ c.args.seats.items ends
    (subst (λ (z : PlainSeat). IsSeated z ends) c.seat.view_is c.seat.invariant)
    (ap (λ (z : PlainSeat). z.queues) c.seat.view_is) _ c.loop-seat.chiefs.items c.absorb.new.chiefs.items
    c.loop-seat.invariant c.in-Some-seat.ensures.steps.0 c.absorb.ensures.at c.absorb.ensures.joined

pub learn-requires-clause-all : goal.learn-requires-clause-all
learn-requires-clause-all c =
    let none : c.loop-seat.seat-iterator.rest.items ≡ [] = nil_from_length _ (sym c.loop-seat.seat-iterator.rest.ok.0 ∙ c.in-None.ensures.steps.0) in
    knows_all c.args.self.now c.loop-seat.chiefs.items _ c.args.seats.items c.loop-seat.invariant none c.requires.count

pub returns : goal.returns
returns c =
    let hub = c.args.self.now in
    let all = c.args.seats.items in
    let chiefs = c.loop-seat.chiefs.items in
    let g = c.loop-seat.invariant in
    let none : c.loop-seat.seat-iterator.rest.items ≡ [] = nil_from_length _ (sym c.loop-seat.seat-iterator.rest.ok.0 ∙ c.in-None.ensures.steps.0) in
    let items : all ≡ c.in-Some.first ∷ c.into_iter-seat-iterator.result.rest.items = cc (c.in-Some.ensures.items, c.into_iter-seats.ensures.rest, c.into_iter-seat-iterator.ensures.into_iter_gives) in
    let order : AreSeatsFrom hub 0 (c.in-Some.first ∷ c.into_iter-seat-iterator.result.rest.items) = subst (AreSeatsFrom hub 0) items c.requires.in_order in
    let a = ap length (ap (λ (z : PlainSeat). z.queues) c.first.view_is ∙ order.0.queues) in
    let b = ap (λ (z : PlainSeat). z.seats) c.first.view_is in
    let d = ap length g.ends in
    let x = length-map c.first.inside.ends.items (λ (p : PlainEnd). p.queue) in
    let y = length-map chiefs (λ (p : PlainEnd). p.queue) in
    let many : length chiefs ≡ length all = omega (arith, a, b, d, x, y, order.0.seats, c.requires.count) in
    let left = c.learn.ensures.0 in
    let each : (q : ℕ) → q < length all → HandedOver all q (left q) = λ q lt.
    let chief = stands_at chiefs q (omega (arith, lt, many)) in
    handed_over hub all c.requires.in_order q (left q)
    (subst (λ accounts. AreSettled accounts (left q)) (has_column hub chiefs _ all g none c.requires.count q chief.0 chief.1)
    (c.learn.ensures.1 q chief.0 chief.1)) in (
      left,
      gathered hub all left c.requires.in_order
          (subst (λ (n : ℕ). AreBelow n all) (sym c.requires.count) (all_below hub chiefs _ all g none c.requires.count)) each,
    )
