use Rattle.std.proofs.Common.{◌≡◌, ◌≤◌, take, length}
use Rattle.world.specs.Steps.{IsRun}
use Rattle.world.proofs.world.World.run.Given as goal

abbrev pub invariant-loop-index : goal.invariant-loop-index
invariant-loop-index l =
    record { runs : IsRun l.fn.self (take l.index l.events) l.count l.self; all : l.index-end ≡ length l.events; few : l.count ≤ l.index }
