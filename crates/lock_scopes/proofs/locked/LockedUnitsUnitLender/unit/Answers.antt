use Rattle.lock_scopes.proofs.locked.LockedUnitsUnitLender.unit.Goals as goal
use Rattle.std.proofs.Common.{refl}

-- what the closure did to the three that were lent to it
pub returns-clause-did : goal.returns-clause-did
returns-clause-did g c =
    let did = c.run.ensures.did in
    (did.0, did.1, did.2, did.3, (did.4, refl))
