use Rattle.std.proofs.Common.{rules}
use Rattle.workers.proofs.Openings.{none_accepted, no_steps}
use Rattle.workers.proofs.opening.open_parts.Goals as goal

pub open_parts-requires-clause-kept : goal.open_parts-requires-clause-kept
open_parts-requires-clause-kept g c = λ form k l. search (rules, none_accepted)

pub lock_units-requires-clause-fresh : goal.lock_units-requires-clause-fresh
lock_units-requires-clause-fresh g c = no_steps _ _ _ c.in_ok-inventory.ensures.units
