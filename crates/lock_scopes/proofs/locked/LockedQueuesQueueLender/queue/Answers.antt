use Rattle.std.proofs.Common.{refl}
use Rattle.lock_scopes.proofs.locked.LockedQueuesQueueLender.queue.Goals as goal

-- what the closure did to the four that were lent to it
pub returns-clause-did : goal.returns-clause-did
returns-clause-did g c =
    let did = c.run.ensures in
    (did.0, _, did.1, _, did.2, did.3, (did.4, refl))
