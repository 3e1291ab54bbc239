use Rattle.std.proofs.Common.{◌≡◌, drop}
use Rattle.unit_log.specs.Inner.Folding.{mark_at}
use Rattle.unit_log.proofs.folding.mark_there.Given as goal

abbrev pub invariant-loop-at : goal.invariant-loop-at
invariant-loop-at l = mark_at l.place (drop l.at l.marks.items) ≡ mark_at l.place l.marks.items
