use Rattle.workers.proofs.Resetting.{was_reset}
use Rattle.workers.proofs.operating.reset_one.Goals as goal

pub returns-in-Ok-clause-reset : goal.returns-in-Ok-clause-reset
returns-in-Ok-clause-reset g c =
    let did = c.in-Ok.ensures.did in
    was_reset _ _ _ _ _ _ _ _ _ did.2 did.3 did.4
