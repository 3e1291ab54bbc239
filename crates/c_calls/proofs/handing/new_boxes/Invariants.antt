use Rattle.std.proofs.Common.{◌≡◌, length}
use Rattle.c_calls.proofs.handing.new_boxes.Given as goal

abbrev pub invariant-loop-number : goal.invariant-loop-number
invariant-loop-number l = length l.boxes.items ≡ l._number
