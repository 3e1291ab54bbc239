use Rattle.std.proofs.Common.{◌≡◌, ◌≤◌, ℕ, List, length}
use Rattle.device_steps.specs.Apart.{standing, Stored}
use Rattle.device_steps.specs.Inner.Cursors.{NoneBefore}
use Rattle.world.specs.LiveServing.{ServesLiveBy}
use Rattle.world.specs.Inner.Rounds.{SettledLive}
use Rattle.device_steps.specs.Settling.{asks}
use Rattle.world.proofs.live_world.LiveWorld.serve.Given as goal

abbrev pub invariant-loop-turn : goal.invariant-loop-turn
invariant-loop-turn g l =
    record {
      rounds : ServesLiveBy g.M.Memory.shared g.M.Memory.begins g.M.Memory.may_be
          (Stored g.M.Memory.stored g.M.Memory.storing) (asks l.queues) l.fn.self l.steps l.self;
      settled : (a : List ℕ) → length a ≡ g.M.Memory.extent l.fn.self.memory
          → SettledLive (asks l.queues)
          (Stored g.M.Memory.stored g.M.Memory.storing l.fn.self.memory l.self.memory) g.M.Memory.shared (g.M.Memory.extent l.fn.self.memory)
          (standing g.M.Memory.shared a l.fn.self.device) l.steps l.self.device;
      size : g.M.Memory.extent l.self.memory ≡ g.M.Memory.extent l.fn.self.memory;
      before : (m : List ℕ) → NoneBefore l.cursor (standing g.M.Memory.shared m l.self.device);
      counted : l._turn ≤ l.steps;
      few : l.steps ≤ l.most;
    }
