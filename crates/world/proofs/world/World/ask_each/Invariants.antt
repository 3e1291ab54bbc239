use Rattle.device_steps.specs.Settling.{asks}
use Rattle.world.specs.ServingAsked.{AsksBelow, AsksNext}
use Rattle.world.proofs.world.World.ask_each.Given as goal

abbrev pub invariant-loop-number : goal.invariant-loop-number
invariant-loop-number l = AsksBelow AsksNext (asks l.queues) l.number l.fn.self l.self
