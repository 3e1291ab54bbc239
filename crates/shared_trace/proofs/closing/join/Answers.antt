use Rattle.shared_trace.proofs.Marks.{joined_more}
use Rattle.std.proofs.Common.{subst}
use Rattle.shared_trace.specs.Inner.Logs.{IsPast}
use Rattle.shared_trace.proofs.closing.join.Goals as goal

pub loop-mark-preserved : goal.loop-mark-preserved
loop-mark-preserved g c =
    let L = g.L.Laws in
    let new = c.learn-in-loop-mark.new.self in
    joined_more L.parts L.part_of L.may c.args.marks.now c.loop-mark.mark-index c.loop-mark.front new c.mark-item.result
    c.loop-mark.invariant c.mark-item.is (subst (λ l. IsPast l new) c.known.ensures.known c.learn-in-loop-mark.ensures.that)
    c.learn-in-loop-mark.ensures.this
