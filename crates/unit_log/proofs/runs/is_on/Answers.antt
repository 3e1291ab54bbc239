use Rattle.std.proofs.Common.{refl, sym, ◌∙◌}
use Rattle.unit_log.proofs.Rising.{on_where, on_nowhere}
use Rattle.unit_log.proofs.runs.is_on.Goals as goal

pub returns-then-times-beyond : goal.returns-then-times-beyond
returns-then-times-beyond c =
    on_where c.args.place c.args.number _ c.times-then-times-beyond.result c.args.run c.requires c.if-place-run.false c.if-number-run.false refl c.if-steps-run.false
    (sym c.times.ensures ∙ c.if-times-beyond.true) c.times-then-times-beyond.ensures

pub returns-else-times-beyond : goal.returns-else-times-beyond
returns-else-times-beyond c =
    on_nowhere c.args.place c.args.number _ c.times.result c.args.run c.requires refl c.times.ensures c.if-times-beyond.false
