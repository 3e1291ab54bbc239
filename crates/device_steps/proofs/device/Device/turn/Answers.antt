use Rattle.std.proofs.Common.{subst}
use Rattle.device_steps.specs.Apart.{standing}
use Rattle.device_steps.specs.Inner.Cursors.{NoneBefore}
use Rattle.device_steps.proofs.device.Device.turn.Goals as goal

pub from_fetch-requires-clause-before : goal.from_fetch-requires-clause-before
from_fetch-requires-clause-before g c =
    λ m may.
    subst (λ x. NoneBefore x (standing g.M.Memory.shared m c.args.self.now)) (c.is_fetch.ensures.0 c.if-is_fetch.true).1
    (c.requires.before m may)
