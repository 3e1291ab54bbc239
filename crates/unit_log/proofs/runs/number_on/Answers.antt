use Rattle.std.proofs.Common.{refl}
use Rattle.unit_log.proofs.Rising.{none_beside}
use Rattle.unit_log.proofs.runs.number_on.Goals as goal

pub returns-then-times-beyond : goal.returns-then-times-beyond
returns-then-times-beyond c = none_beside c.args.place _ c.times.result c.args.run c.requires.strides refl c.times.ensures c.if-times-beyond.true
