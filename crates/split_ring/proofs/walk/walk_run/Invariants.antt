use Rattle.std.proofs.Common.{◌≡◌, ℕ, List}
use Rattle.split_ring.proofs.Path.{OnPath}
use Rattle.split_ring.proofs.walk.walk_run.Given as goal

abbrev pub invariant-along : goal.invariant-along
invariant-along g l =
    record {
      size : g.M.Memory.extent l.memory ≡ g.M.Memory.extent l.fn.memory;
      stays : (m : List ℕ) → g.M.Memory.may_be l.memory m → g.M.Memory.may_be l.fn.memory m;
      stores : g.M.Memory.stored l.memory ≡ g.M.Memory.stored l.fn.memory;
      reading : g.M.Memory.is_open l.memory;
      on : (m : List ℕ) → g.M.Memory.may_be l.memory m → OnPath m l.table l.head l.fn.first l.fn.draft l._step l.before l.d l.draft;
    }
