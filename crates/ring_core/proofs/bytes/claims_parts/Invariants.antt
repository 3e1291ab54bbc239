use Rattle.std.proofs.Common.{◌≡◌, ℕ, List, ◌≤◌}
use Rattle.ring_core.proofs.bytes.claims_parts.Given as goal

abbrev pub invariant-loop-part : goal.invariant-loop-part
invariant-loop-part g l =
    record {
      size : g.M.Memory.extent l.memory ≡ g.M.Memory.extent l.fn.memory;
      stays : (m : List ℕ) → g.M.Memory.may_be l.memory m → g.M.Memory.may_be l.fn.memory m;
      stores : g.M.Memory.stored l.memory ≡ g.M.Memory.stored l.fn.memory;
      reading : g.M.Memory.is_open l.memory;
      room : l.room ≤ l.most;
    }
