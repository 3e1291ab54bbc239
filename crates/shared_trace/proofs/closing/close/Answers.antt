use Rattle.std.proofs.Common.{◌∙◌, subst}
use Rattle.std.specs.Prelude.{MatchBool, ⊤}
use Rattle.shared_trace.specs.Events.{Each}
use Rattle.shared_trace.specs.Inner.Logs.{IsPast, IsCounted}
use Rattle.shared_trace.proofs.Marks.{closes}
use Rattle.shared_trace.proofs.closing.close.Goals as goal

pub returns : goal.returns
returns g c =
    let L = g.L.Laws in
    let marks = c.args.marks.now in
    let first = c.join.new.front in
    let log = c.are_counted.new.front in
    let last = c.are_counted-2.new.front in
    let one : Each (IsCounted L.part_of c.again-log.result log) marks =
    subst (λ b. MatchBool b (Each
    (IsCounted L.part_of c.again-log.result log) marks) ⊤) c.if-not-are_counted.false c.are_counted.ensures.counted in
    let two : Each (IsCounted L.part_of c.again-last.result last) marks =
    subst (λ b. MatchBool b (Each
    (IsCounted L.part_of c.again-last.result last) marks) ⊤) c.if-not-are_counted-2.false c.are_counted-2.ensures.counted in
    closes L.parts L.part_of L.may marks first log last c.again-last.ensures.lawful c.again-last.ensures.below
    (c.if-marks-len.false ∙ c.len.ensures) c.join.ensures
    (subst (λ l. IsPast l log) c.again-log.ensures.same c.are_counted.ensures.seen)
    (subst (λ l. Each (IsCounted L.part_of l log) marks) c.again-log.ensures.same one)
    (subst (λ l. Each (IsCounted L.part_of l last) marks) c.again-last.ensures.same two)
