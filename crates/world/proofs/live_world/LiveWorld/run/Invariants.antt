use Rattle.std.proofs.Common.{◌≡◌, ◌≤◌, take, length}
use Rattle.device_steps.specs.Apart.{Stored}
use Rattle.world.specs.Steps.{events_of}
use Rattle.world.specs.LiveWorld.{StepsEach, StepsLive}
use Rattle.world.specs.Inner.LiveWorld.{RanLive}
use Rattle.world.proofs.live_world.LiveWorld.run.Given as goal

abbrev pub invariant-loop-index : goal.invariant-loop-index
invariant-loop-index g l =
    record {
      runs : StepsEach (StepsLive g.M.Memory.shared g.M.Memory.begins g.M.Memory.may_be
          (Stored g.M.Memory.stored g.M.Memory.storing)) l.fn.self (events_of (take l.index l.events))
          l.count l.self;
      ran : RanLive (Stored g.M.Memory.stored g.M.Memory.storing l.fn.self.memory l.self.memory) g.M.Memory.shared (g.M.Memory.extent l.fn.self.memory) l.fn.self.device (events_of (take l.index l.events))
          l.count l.self.device;
      size : g.M.Memory.extent l.self.memory ≡ g.M.Memory.extent l.fn.self.memory;
      all : l.index-end ≡ length l.events;
      few : l.count ≤ l.index;
    }
