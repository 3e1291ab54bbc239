use Rattle.std.proofs.Common.{◌≡◌, ◌≤◌, ◌+◌, ◌++◌, List, length}
use Rattle.std.specs.Vec.{vec_capacity}
use Rattle.std.specs.Vec.Iter.{into_iter_items, into_iter_len}
use Rattle.unit_model.specs.Unit.{PlainUnit}
use Rattle.device_steps.specs.Opening.{AreDisksOf}
use Rattle.device_steps.proofs.opening.disks_of.Given as goal

abbrev pub invariant-loop-unit : goal.invariant-loop-unit
invariant-loop-unit l =
    record {
      seen : List PlainUnit;
      split : l.fn.units.items ≡ seen ++ into_iter_items l.units;
      kept : AreDisksOf seen l.disks.items;
      room : into_iter_len l.units + length l.disks.items ≤ vec_capacity l.disks;
    }

abbrev pub decreases-loop-unit : goal.decreases-loop-unit
decreases-loop-unit l = into_iter_len l.units
