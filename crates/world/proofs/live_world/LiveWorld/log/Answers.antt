use Rattle.std.proofs.Common.{sym, subst}
use Rattle.device_model.specs.World.{Everywhere}
use Rattle.device_model.specs.Lawful.{IsNumbered}
use Rattle.world.proofs.live_world.LiveWorld.log.Goals as goal

pub log-requires : goal.log-requires
log-requires g c =
    record { numbered = subst (λ w. Everywhere IsNumbered w.device.queues) (sym c.self.view_is) c.has_parts.ensures.numbered }
