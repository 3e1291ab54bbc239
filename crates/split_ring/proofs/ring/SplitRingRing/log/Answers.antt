use Rattle.std.proofs.Common.{◌≡◌, length, arith}
use Rattle.ring_core.proofs.Few.{few_by_entries}
use Rattle.split_ring.proofs.ring.SplitRingRing.log.Goals as goal

pub returns-clause-few : goal.returns-clause-few
returns-clause-few c =
    let heads : length c.args.self.now.outstanding ≡ c.args.self.now.layout.size = rw (← c.self.view_is) c.self.invariant.heads in
    omega (arith, heads, few_by_entries c.args.self.now.outstanding)
