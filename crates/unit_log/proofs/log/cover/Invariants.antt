use Rattle.std.proofs.Common.{◌≡◌, ◌%◌, length}
use Rattle.unit_model.specs.Base.{most_kept}
use Rattle.unit_log.specs.Inner.Recorded.{AreFirst}
use Rattle.unit_log.proofs.log.cover.Given as goal

abbrev pub invariant-loop-place : goal.invariant-loop-place
invariant-loop-place l =
    (l.index ≡ l.place % most_kept) × (length l.folded.kinds ≡ l.place) × AreFirst l.folded.kinds l.kinds.kinds × (l.folded.forgotten ≡ l.initial.folded.forgotten)
    × (l.folded.keeps ≡ l.initial.folded.keeps)
