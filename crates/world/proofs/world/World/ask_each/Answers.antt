use Rattle.std.proofs.Common.{refl}
use Rattle.device_steps.specs.Settling.{asks}
use Rattle.world.specs.ServingAsked.{AsksNext}
use Rattle.world.proofs.Rounded.{below_next}
use Rattle.world.proofs.world.World.ask_each.Goals as goal

pub loop-number-init : goal.loop-number-init
loop-number-init c = refl

pub loop-number-preserved : goal.loop-number-preserved
loop-number-preserved c =
    below_next AsksNext (asks c.args.queues) c.loop-number.number c.args.self.now c.loop-number.self c.ask_among.new.self
    c.loop-number.invariant c.ask_among.ensures
