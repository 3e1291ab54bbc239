use Rattle.ring_core.specs.Table.{tabulated, found_under}
use Rattle.ring_core.specs.Inner.Table.{IsLeastBelow}
use Rattle.ring_core.proofs.outstanding.least_by_id.Given as goal

abbrev pub invariant-loop-id : goal.invariant-loop-id
invariant-loop-id l = IsLeastBelow (tabulated (found_under l.chains) l.ids) l.id l.least
