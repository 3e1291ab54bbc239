use Rattle.std.proofs.Common.{◌+◌, ◌-◌, ◌<◌, List, sym, ◌∙◌, ap, subst, arith}
use Rattle.unit_log.specs.declared.runs.Run.{Run}
use Rattle.unit_log.specs.Inner.Runs.{OnRun, InRuns, OneMore, AreRising, AreNumbered, AreBefore}
use Rattle.unit_log.proofs.Rising.{stride_at, rising_set, numbered_set, before_set, more_set, rising_push, numbered_push, before_push, more_push}
use Rattle.unit_log.proofs.runs.add.Goals as goal

pub extended-requires : goal.extended-requires
extended-requires c =
    let ok = c.args.runs.now.ok in
    let n = c.len-count.ensures in
    let some = c.if-count-gt0.true in
    subst (λ (r : Run). 0 < r.by_place) (sym c.index.ensures)
    (stride_at 0 c.args.runs.now.items (c.len-count.result - 1) c.index.result.now c.requires.rising (omega (arith, ok, n, some)))

pub returns-in-Some-clause-rising : goal.returns-in-Some-clause-rising
returns-in-Some-clause-rising c =
    let ok = c.args.runs.now.ok in
    let n = c.len-count.ensures in
    let some = c.if-count-gt0.true in
    let e = c.in-Some.ensures in
    rising_set 0 c.args.runs.now.items (c.len-count.result - 1) c.in-Some.run' c.index.result.now c.requires.rising (omega (arith, ok, n, some))
    (e.first ∙ ap (λ (r : Run). r.place) c.index.ensures) e.strides

pub returns-in-Some-clause-numbered : goal.returns-in-Some-clause-numbered
returns-in-Some-clause-numbered c =
    let last = c.in-Some.ensures.last in
    numbered_set c.args.runs.now.items (c.len-count.result - 1) c.in-Some.run' c.requires.numbered (omega (arith, last))

pub returns-in-Some-clause-before : goal.returns-in-Some-clause-before
returns-in-Some-clause-before c =
    before_set c.args.place c.args.runs.now.items (c.len-count.result - 1) c.in-Some.run' c.requires.before c.in-Some.ensures.ends

pub returns-in-Some-clause-ok : goal.returns-in-Some-clause-ok
returns-in-Some-clause-ok c =
    let ok = c.args.runs.now.ok in
    let n = c.len-count.ensures in
    let some = c.if-count-gt0.true in
    let e = c.in-Some.ensures in
    more_set c.args.place c.args.number c.args.runs.now.items (c.len-count.result - 1) c.in-Some.run' c.index.result.now (omega (arith, ok, n, some))
    (subst (λ (r : Run). OneMore (λ p n. OnRun p n r) c.args.place c.args.number (λ p n. OnRun p n c.in-Some.run')) c.index.ensures e.more)

pub returns-in-Ok-clause-rising : goal.returns-in-Ok-clause-rising
returns-in-Ok-clause-rising c =
    let first = c.run_of.ensures.first in
    subst (AreRising 0) (sym c.in-Ok.ensures.items)
    (rising_push 0 c.args.runs.now.items c.run_of.result c.requires.rising (subst (λ p. AreBefore p c.args.runs.now.items) (sym first.0) c.requires.before) (omega arith) first.1)

pub returns-in-Ok-clause-numbered : goal.returns-in-Ok-clause-numbered
returns-in-Ok-clause-numbered c =
    let last = c.run_of.ensures.last in
    subst AreNumbered (sym c.in-Ok.ensures.items)
    (numbered_push c.args.runs.now.items c.run_of.result c.requires.numbered (omega (arith, last)))

pub returns-in-Ok-clause-before : goal.returns-in-Ok-clause-before
returns-in-Ok-clause-before c =
    subst (AreBefore (c.args.place + 1)) (sym c.in-Ok.ensures.items)
    (before_push c.args.place c.args.runs.now.items c.run_of.result c.requires.before c.run_of.ensures.first.2)

pub returns-in-Ok-clause-ok : goal.returns-in-Ok-clause-ok
returns-in-Ok-clause-ok c =
    subst (λ (w : List Run). OneMore (λ p n. InRuns p n c.args.runs.now.items) c.args.place c.args.number (λ p n. InRuns p n w)) (sym c.in-Ok.ensures.items)
    (more_push c.args.place c.args.number c.args.runs.now.items c.run_of.result c.run_of.ensures.one)
