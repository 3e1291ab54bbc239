use Rattle.workers.proofs.Resizing.{was_resized, resize_fails}
use Rattle.workers.proofs.operating.resize_one.Goals as goal

pub returns-in-Ok-clause-resized : goal.returns-in-Ok-clause-resized
returns-in-Ok-clause-resized g c =
    let did = c.in-Ok.ensures.did in
    was_resized _ _ _ _ _ _ _ _ _ did.2 did.3 did.4

pub returns-in-Err-clause-cause : goal.returns-in-Err-clause-cause
returns-in-Err-clause-cause g c =
    let did = c.in-Err.ensures.did in
    resize_fails c.args.shared.now.inventory c.args.at did.0 c.args.blocks c.in-Err.fault c.requires.capacity did.3.2
