use Rattle.std.proofs.Common.{◌<◌, ◌≤◌, ◌+◌, sym, subst, length}
use Rattle.unit_model.specs.Base.{most_kept}
use Rattle.unit_log.specs.Slots.{Ringed}
use Rattle.unit_log.proofs.Slots.{stands_at}
use Rattle.unit_log.proofs.ring.KindRing.stands_at.Goals as goal

pub returns : goal.returns
returns c =
    let u = c.self.inside in
    let there = subst (λ (r : Ringed). c.args.place < length r.kinds) (sym c.self.view_is) c.requires.there in
    let still = subst (λ (r : Ringed). length r.kinds ≤ c.args.place + most_kept) (sym c.self.view_is) c.requires.stands in
    rw (← c.self.view_is) (stands_at u.len c.args.place _ u.slots.items u.all.items c.index.result.now c.self.invariant.slots_are c.requires.index there still c.index.ensures)
