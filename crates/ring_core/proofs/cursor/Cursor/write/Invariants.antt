use Rattle.std.proofs.Common.{◌≡◌, ℕ, List, ◌+◌, ◌-◌, length, take, drop}
use Rattle.ring_core.specs.Parts.{writable_total}
use Rattle.ring_core.specs.Writes.{all_written, scatter_writes, stores_of}
use Rattle.ring_core.proofs.cursor.Cursor.write.Given as goal

abbrev pub invariant-loop-parts : goal.invariant-loop-parts
invariant-loop-parts g l =
    record {
      done : (m : List ℕ) → g.M.Memory.may_be l.memory m → (m₀ : List ℕ) × g.M.Memory.may_be l.fn.memory m₀
          × (all_written m (scatter_writes (drop l.index l.parts) l.skip l.rest)
          ≡ all_written m₀ (scatter_writes (drop l.initial.index l.parts) l.initial.skip l.fn.bytes));
      stores : g.M.Memory.storing (g.M.Memory.stored l.memory) (stores_of (scatter_writes (drop l.index l.parts) l.skip l.rest))
          ≡ g.M.Memory.storing (g.M.Memory.stored l.fn.memory) (stores_of (scatter_writes (drop l.initial.index l.parts) l.initial.skip l.fn.bytes));
      parts : l.parts ≡ l.fn.self.parts;
      position : writable_total (take l.index l.parts) + l.skip + length l.rest ≡ l.fn.self.at + length l.fn.bytes;
      size : g.M.Memory.extent l.memory ≡ g.M.Memory.extent l.fn.memory;
    }

abbrev pub decreases-loop-parts : goal.decreases-loop-parts
decreases-loop-parts g l = length l.rest + (length l.parts - l.index)
