use Rattle.std.proofs.Common.{◌≤◌}
use Rattle.device_steps.specs.Inner.Off.{AreBareBetween}
use Rattle.device_steps.proofs.handed_off.HandedOff.first_between.Given as goal

abbrev pub invariant-loop-at : goal.invariant-loop-at
invariant-loop-at l =
    record {
      low : l.from ≤ l.at;
      bare : AreBareBetween l.from l.at l.fn.self.lists;
    }
