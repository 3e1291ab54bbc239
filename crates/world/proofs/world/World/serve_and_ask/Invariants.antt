use Rattle.std.proofs.Common.{◌≤◌, ◌+◌, ◌-◌, cond}
use Rattle.world.specs.ServingAsked.{ServesWhole, AsksDrivers}
use Rattle.world.proofs.Rounded.{SoFar}
use Rattle.world.proofs.world.World.serve_and_ask.Given as goal

abbrev pub invariant-rounds : goal.invariant-rounds
invariant-rounds l =
    record {
      so : SoFar (ServesWhole l.queues) (AsksDrivers l.queues) l.fn.self l.most l.steps l.asked l.self;
      few : l.steps ≤ l.most;
    }

abbrev pub decreases-rounds : goal.decreases-rounds
decreases-rounds l = (l.most - l.steps) + cond l.asked 0 1
