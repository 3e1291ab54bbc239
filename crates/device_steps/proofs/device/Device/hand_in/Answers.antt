use Rattle.std.proofs.Common.{length, ap, ◌∙◌}
use Rattle.device_steps.proofs.Making.{over_length, lists_over}
use Rattle.device_steps.proofs.device.Device.hand_in.Goals as goal

pub invariant_of-self : goal.invariant_of-self
invariant_of-self c =
    lists_over c.self.inside.units.items _ _ _ _
    (ap (λ us. length us) c.hand_in.ensures.over ∙ over_length c.self.inside.units.items c.args.disks.now.items)
    c.self.invariant
