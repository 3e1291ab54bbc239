use Rattle.std.proofs.Common.{length}
use Rattle.c_calls.proofs.rings.+marks.Given as goal

abbrev pub decreases-marks : goal.decreases-marks
decreases-marks l = length l.layouts.now
