use Rattle.std.proofs.Common.{arith}
use Rattle.std.proofs.lemmas.Bool.{leb-true}
use Rattle.unit_log.proofs.ring.KindRing.is_calm_from.Goals as goal

pub returns : goal.returns
returns c =
    let u = c.self.inside in
    rw (← c.self.view_is) (λ yes p le. c.self.invariant.calm_from p (let h = leb-true u.calm c.args.place yes in omega (arith, h, le)))
