use Rattle.std.proofs.Common.{arith}
use Rattle.c_calls.proofs.Mapped.{joined}
use Rattle.c_calls.proofs.region.are_mapped.Goals as goal

pub loop-turn-preserved : goal.loop-turn-preserved
loop-turn-preserved c = (
  omega (arith, c.loop-turn.invariant.0, c.in-Some.ensures.some.0),
  λ p. joined c.args.regions.now c.args.addr c.loop-turn.at c.in-Some.next p c.loop-turn.invariant.1 c.in-Some.ensures.some.1,
)
