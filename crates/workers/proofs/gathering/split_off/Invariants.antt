use Rattle.std.specs.Prelude.{◌≡◌, ◌+◌}
use Rattle.workers.proofs.gathering.split_off.Given as goal

abbrev pub invariant-loop-number : goal.invariant-loop-number
invariant-loop-number g l = (l.share.parts + l._number ≡ l.fn.share.parts) × (l.share.amount ≡ 0)
