use Rattle.std.proofs.Common.{◌≡◌, ℕ, List, ◌+◌, ◌*◌, ◌%◌, []}
use Rattle.guest_mem.specs.Memory.{bytes_at}
use Rattle.ring_core.specs.Walk.{nothing_before}
use Rattle.ring_core.specs.Packed.{packed_slots, packed_descriptor}
use Rattle.ring_core.proofs.Walking.{Walked}
use Rattle.packed_ring.proofs.walk.walk.Given as goal

abbrev pub invariant-along : goal.invariant-along
invariant-along g l =
    record {
      size : g.M.Memory.extent l.memory ≡ g.M.Memory.extent l.fn.memory;
      stays : (m : List ℕ) → g.M.Memory.may_be l.memory m → g.M.Memory.may_be l.fn.memory m;
      stores : g.M.Memory.stored l.memory ≡ g.M.Memory.stored l.fn.memory;
      reading : g.M.Memory.is_open l.memory;
      on : (m : List ℕ) → g.M.Memory.may_be l.memory m → Walked (packed_slots l.features m l.layout l.passed) l.layout.size nothing_before [] l.step l.before l.draft;
      is : (m : List ℕ) → g.M.Memory.may_be l.memory m → l.d ≡ packed_descriptor (bytes_at m (l.layout.desc + 16 * l.slot) 16);
      slot : l.slot ≡ (l.passed + l.step) % l.layout.size;
    }
