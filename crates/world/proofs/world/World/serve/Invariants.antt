use Rattle.std.proofs.Common.{◌≤◌}
use Rattle.device_steps.specs.Settling.{asks, ServesBy}
use Rattle.device_steps.specs.Inner.Cursors.{NoneBefore}
use Rattle.world.proofs.world.World.serve.Given as goal

abbrev pub invariant-loop-turn : goal.invariant-loop-turn
invariant-loop-turn l =
    record {
      serves : ServesBy (asks l.queues) l.fn.self l.steps l.self;
      before : NoneBefore l.cursor l.self;
      counted : l._turn ≤ l.steps;
      few : l.steps ≤ l.most;
    }
