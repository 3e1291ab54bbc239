use Rattle.std.proofs.Common.{◌≡◌, ◌≤◌, ◌+◌, ◌-◌, cond}
use Rattle.device_steps.specs.Apart.{Stored}
use Rattle.world.specs.ServingAsked.{ServesWholeLive, AsksDriversLive}
use Rattle.world.proofs.Rounded.{SoFar}
use Rattle.world.proofs.live_world.LiveWorld.serve_and_ask.Given as goal

abbrev pub invariant-rounds : goal.invariant-rounds
invariant-rounds g l =
    record {
      so : SoFar (ServesWholeLive g.M.Memory.shared g.M.Memory.begins g.M.Memory.may_be (Stored g.M.Memory.stored g.M.Memory.storing) g.M.Memory.extent l.queues)
          (AsksDriversLive g.M.Memory.shared g.M.Memory.begins g.M.Memory.may_be
          (Stored g.M.Memory.stored g.M.Memory.storing) g.M.Memory.extent l.queues) l.fn.self l.most l.steps l.asked l.self;
      size : g.M.Memory.extent l.self.memory ≡ g.M.Memory.extent l.fn.self.memory;
      few : l.steps ≤ l.most;
    }

abbrev pub decreases-rounds : goal.decreases-rounds
decreases-rounds g l = (l.most - l.steps) + cond l.asked 0 1
