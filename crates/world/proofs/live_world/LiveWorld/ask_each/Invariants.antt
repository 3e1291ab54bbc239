use Rattle.std.proofs.Common.{◌≡◌}
use Rattle.device_steps.specs.Apart.{Stored}
use Rattle.device_steps.specs.Settling.{asks}
use Rattle.world.specs.ServingAsked.{AsksBelow, AsksNextLive}
use Rattle.world.proofs.live_world.LiveWorld.ask_each.Given as goal

abbrev pub invariant-loop-number : goal.invariant-loop-number
invariant-loop-number g l =
    record {
      size : g.M.Memory.extent l.self.memory ≡ g.M.Memory.extent l.fn.self.memory;
      below : AsksBelow (AsksNextLive g.M.Memory.shared g.M.Memory.begins g.M.Memory.may_be
          (Stored g.M.Memory.stored g.M.Memory.storing) g.M.Memory.extent) (asks l.queues) l.number l.fn.self l.self;
    }
