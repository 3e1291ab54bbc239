use Rattle.std.proofs.Common.{◌≡◌, length}
use Rattle.unit_log.specs.Inner.Recorded.{AreFirst}
use Rattle.unit_log.proofs.log.count_up.Given as goal

abbrev pub invariant-loop-place : goal.invariant-loop-place
invariant-loop-place l =
    (length l.folded.kinds ≡ l.place) × AreFirst l.folded.kinds l.kinds.kinds × (l.folded.forgotten ≡ l.initial.folded.forgotten)
    × (l.folded.keeps ≡ l.initial.folded.keeps)
