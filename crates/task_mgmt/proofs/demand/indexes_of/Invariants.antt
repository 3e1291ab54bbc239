use Rattle.std.proofs.Common.{◌≡◌}
use Rattle.task_mgmt.proofs.Places.{places_below}
use Rattle.task_mgmt.proofs.demand.indexes_of.Given as goal

abbrev pub invariant-loop-unit_index : goal.invariant-loop-unit_index
invariant-loop-unit_index l = l.indexes.items ≡ places_below l.units l.target l.unit_index
