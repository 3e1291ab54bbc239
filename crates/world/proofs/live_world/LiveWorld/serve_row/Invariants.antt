use Rattle.std.proofs.Common.{◌≡◌, ◌<◌, ℕ, List}
use Rattle.device_steps.specs.Apart.{standing, Stored}
use Rattle.device_steps.specs.Inner.Cursors.{NoneBeforeFetch}
use Rattle.world.specs.Inner.Rounds.{RowSettles}
use Rattle.world.proofs.Rounds.{RowSoFar}
use Rattle.world.proofs.live_world.LiveWorld.serve_row.Given as goal

abbrev pub invariant-loop-taken : goal.invariant-loop-taken
invariant-loop-taken g l =
    record {
      rows : RowSoFar g.M.Memory.shared g.M.Memory.begins g.M.Memory.may_be (Stored g.M.Memory.stored g.M.Memory.storing)
          l.number l.fn.self l.steps l._taken l.self;
      settled : RowSettles (Stored g.M.Memory.stored g.M.Memory.storing) l.number g.M.Memory.shared
          (g.M.Memory.extent l.fn.self.memory) l.fn.self l.steps l.self;
      size : g.M.Memory.extent l.self.memory ≡ g.M.Memory.extent l.fn.self.memory;
      before : (m : List ℕ) → NoneBeforeFetch (standing g.M.Memory.shared m l.self.device);
      few : l.steps < l.most;
    }
