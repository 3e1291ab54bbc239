use Rattle.std.proofs.Common.{sym, subst}
use Rattle.device_model.specs.World.{Everywhere}
use Rattle.device_model.specs.Lawful.{IsNumbered}
use Rattle.world.proofs.world.World.log.Goals as goal

pub log-requires : goal.log-requires
log-requires c =
    record { numbered = subst (λ w. Everywhere IsNumbered w.queues) (sym c.self.view_is) c.is_sound.ensures.sound.numbered }
