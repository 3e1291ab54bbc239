use Rattle.std.proofs.Common.{◌≡◌, ◌+◌, sym, ap, subst, length, arith}
use Rattle.handoff.specs.Seats.{Hub}
use Rattle.handoff.specs.Inner.Seats.{AreAllSeats}
use Rattle.workers.specs.Crew.{IsLastSeat}
use Rattle.workers.proofs.Crews.{all_back}
use Rattle.workers.proofs.crew.Crew.join.Goals as goal

pub returns-clause-seats : goal.returns-clause-seats
returns-clause-seats g c =
    let joined = c.join_all-seats in
    let hub : Hub = c.self.inside.hub.value in
    let same : c.args.self.hub ≡ hub = sym (ap (λ b. b.hub) c.self.view_is) in
    let last : IsLastSeat hub c.args.seat = subst (λ (h : Hub). IsLastSeat h c.args.seat) same c.requires in
    let count : length joined.result.0.items + 1 ≡ hub.seats =
    omega (arith, joined.result.0.ok.0, joined.ensures.count.0, c.self.inside.hired.ok.0, c.self.invariant.1) in
    subst (λ (h : Hub). AreAllSeats h c.push_reserved.new.self.items) (sym same)
    (all_back hub c.args.seat joined.result.0.items _ last (joined.ensures.seats hub c.self.invariant.0) count
    c.push_reserved.ensures.items)
