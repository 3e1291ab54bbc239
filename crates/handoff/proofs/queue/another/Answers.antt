use Rattle.std.proofs.Common.{◌+◌, arith}
use Rattle.std.proofs.lemmas.Option.{slice_get_within}
use Rattle.handoff.specs.Inner.Rule.{newcomer}
use Rattle.handoff.specs.Inner.Lanes.{lead}
use Rattle.handoff.proofs.Seating.{all_made}
use Rattle.handoff.proofs.queue.another.Goals as goal

pub returns-clause-chiefs : goal.returns-clause-chiefs
returns-clause-chiefs c =
    let lanes = c.args.lanes.now in
    let made = c.loop-at.invariant in
    all_made (lead (c.args.number + 1)) lanes c.loop-at.chiefs.items made.many (λ q x at.
    let lt = slice_get_within lanes q x at in
    made.done q x (omega (arith, lt, c.loop-at-test.false)) at)

pub returns-clause-ends : goal.returns-clause-ends
returns-clause-ends c =
    let lanes = c.args.lanes.now in
    let made = c.loop-at.invariant in
    all_made (newcomer (lead c.args.number)) lanes c.loop-at.ends.items
    (omega (arith, made.count, c.loop-at.auto.at-end, c.loop-at-test.false)) (λ q x at.
    let lt = slice_get_within lanes q x at in
    made.made q x (omega (arith, lt, c.loop-at-test.false)) at)
