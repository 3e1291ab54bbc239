use Rattle.std.proofs.Common.{◌≡◌, length, map}
use Rattle.request_intake.specs.Inventory.{address_of, is_rising}
use Rattle.request_intake.proofs.inventory.are_rising.Given as goal

abbrev pub invariant-loop-rest : goal.invariant-loop-rest
invariant-loop-rest l = is_rising (map address_of l.rest) ≡ is_rising (map address_of l.fn.units)

abbrev pub decreases-loop-rest : goal.decreases-loop-rest
decreases-loop-rest l = length l.rest
