use Rattle.std.proofs.Common.{refl, sym, ◌∙◌}
use Rattle.unit_log.proofs.Marks.{mark_next, mark_found}
use Rattle.unit_log.proofs.folding.mark_there.Goals as goal

pub returns-then-is_some : goal.returns-then-is_some
returns-then-is_some c =
    mark_found c.args.place c.loop-at.at c.mark_of.result c.rule_if-found.result c.args.marks.now.items c.mark_of.ensures c.rule_if-found.ensures
    (sym c.is_some.ensures ∙ c.if-is_some.true) c.loop-at.invariant

pub loop-at-preserved : goal.loop-at-preserved
loop-at-preserved c =
    mark_next c.args.place c.loop-at.at _ c.mark_of.result c.rule_if-found.result c.args.marks.now.items c.mark_of.ensures c.rule_if-found.ensures
    (sym c.is_some.ensures ∙ c.if-is_some.false) refl c.loop-at.invariant
