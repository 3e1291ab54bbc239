use Rattle.std.proofs.Common.{◌≤◌, ◌<◌, ℕ, ap, subst, arith}
use Rattle.handoff.specs.Seats.{Hub, PlainSeat}
use Rattle.handoff.specs.Inner.Seats.{WasEmpty}
use Rattle.handoff.proofs.Holding.{on_some, on_none, between_of, nearest_before, all_empty}
use Rattle.handoff.proofs.queue.Handoff.take.Goals as goal

pub returns-clause-taken : goal.returns-clause-taken
returns-clause-taken g c =
    let now = c.args.seat.now in
    let number = ap (λ (s : PlainSeat). s.number) c.seat.view_is in
    let seats = ap (λ (s : PlainSeat). s.seats) c.seat.view_is in
    let many = ap (λ (h : Hub). h.seats) c.self.view_is in
    let le : now.number ≤ now.seats = omega (arith, number, seats, c.seat.invariant.number) in
    let above : (q : ℕ) → now.number ≤ q → q < now.seats → WasEmpty now q = λ q a b.
    c.in_default.ensures.empty q (omega (arith, a, number)) (omega (arith, b, many, c.requires.seats, c.len.ensures, c.self.inside.lanes.ok.0)) in
    on_some c.take_between-2.result c.take_between-2.ensures.taken (λ job t.
    nearest_before now c.take_between-2.new.seat job le above
    (between_of 0 c.seat.inside.number now.number _ now _ job number c.in_default.ensures.unchanged t))

pub returns-clause-empty : goal.returns-clause-empty
returns-clause-empty g c =
    let now = c.args.seat.now in
    let number = ap (λ (s : PlainSeat). s.number) c.seat.view_is in
    let many = ap (λ (h : Hub). h.seats) c.self.view_is in
    let above : (q : ℕ) → now.number ≤ q → q < now.seats → WasEmpty now q = λ q a b.
    c.in_default.ensures.empty q (omega (arith, a, number)) (omega (arith, b, many, c.requires.seats, c.len.ensures, c.self.inside.lanes.ok.0)) in
    on_none c.take_between-2.result c.take_between-2.ensures.empty (λ h q lt.
    all_empty now above (λ i a b. subst (λ s. WasEmpty s i) c.in_default.ensures.unchanged (h i a (omega (arith, b, number))))
    q (omega (arith, lt, c.requires.seats)))
