use Rattle.std.proofs.Common.{◌≡◌, ℕ, List, ◌/◌}
use Rattle.ring_core.specs.Packed.{entry_of, packed_table}
use Rattle.ring_core.proofs.Walking.{Walked}
use Rattle.packed_ring.proofs.walk.walk_table.Given as goal

abbrev pub invariant-along : goal.invariant-along
invariant-along g l =
    record {
      size : g.M.Memory.extent l.memory ≡ g.M.Memory.extent l.fn.memory;
      stays : (m : List ℕ) → g.M.Memory.may_be l.memory m → g.M.Memory.may_be l.fn.memory m;
      stores : g.M.Memory.stored l.memory ≡ g.M.Memory.stored l.fn.memory;
      reading : g.M.Memory.is_open l.memory;
      on : (m : List ℕ) → g.M.Memory.may_be l.memory m → Walked (packed_table m l.named) (l.named.len / 16) l.fn.first l.fn.draft l.position l.before l.draft;
      is : (m : List ℕ) → g.M.Memory.may_be l.memory m → l.d ≡ entry_of m l.named l.position;
    }
