use Rattle.std.proofs.Common.{◌∙◌, sym}
use Rattle.device_steps.specs.Apart.{standing}
use Rattle.device_steps.proofs.Looks.{false_true}
use Rattle.device_steps.proofs.Woken.{past_start}
use Rattle.device_steps.proofs.device.Device.from_start.Goals as goal

pub from_direct-requires-clause-start : goal.from_direct-requires-clause-start
from_direct-requires-clause-start g c =
    λ m may.
    past_start (standing g.M.Memory.shared m c.args.self.now) c.args.cursor (λ e. false_true (sym c.if-is_start.false ∙ c.is_start.ensures.1 e))
    (c.requires.before m may)
