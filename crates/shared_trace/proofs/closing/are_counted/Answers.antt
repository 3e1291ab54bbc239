use Rattle.std.proofs.Common.{sym, ◌∙◌, arith}
use Rattle.shared_trace.proofs.Marks.{counted_more}
use Rattle.shared_trace.proofs.Events.{past_trans}
use Rattle.shared_trace.proofs.closing.are_counted.Goals as goal

pub returns-then-found-count-clause-seen : goal.returns-then-found-count-clause-seen
returns-then-found-count-clause-seen g c =
    past_trans c.args.front.now c.loop-k.front c.count-found.new.self c.loop-k.invariant.seen c.count-found.ensures.seen

pub loop-k-preserved : goal.loop-k-preserved
loop-k-preserved g c =
    let L = g.L.Laws in
    let i = c.loop-k.invariant in
    let new = c.count-found.new.self in
    let mark = c.index-marks-k.result in
    record {
      seen = past_trans c.args.front.now c.loop-k.front new i.seen c.count-found.ensures.seen;
      counted =
          counted_more L.parts L.part_of L.may c.args.marks.now c.loop-k.k c.count-found.result c.count.result c.args.front.now
          c.loop-k.front new mark i.seen i.counted c.index-marks-k.is (sym c.number.ensures
          ∙ c.if-number-k.false) c.count.ensures.later
          c.count-found.ensures.seen c.count-found.ensures.count c.count.ensures.count c.if-found-count.false;
    }

pub returns-clause-counted : goal.returns-clause-counted
returns-clause-counted g c = λ k o lt. c.loop-k.invariant.counted k o (omega (arith, lt, c.loop-k-test.false)) lt
