use Rattle.std.proofs.Common.{◌≡◌, ℕ, List, ◌+◌, ◌++◌, length}
use Rattle.ring_core.specs.Writes.{Wrote, scatter_writes, stores_of}
use Rattle.responses.proofs.writing.write_pages.Given as goal

abbrev pub invariant-loop-cursor : goal.invariant-loop-cursor
invariant-loop-cursor g l =
    record {
      split : l.fn.first ++ l.fn.rest ≡ l.written.items ++ l.left;
      parts : l.cursor.parts ≡ l.chain.parts;
      at : l.cursor.at ≡ length (l.fn.head ++ l.written.items);
      done : Wrote (g.M.Memory.may_be l.fn.memory) (g.M.Memory.may_be l.memory) (scatter_writes l.chain.parts 0 (l.fn.head ++ l.written.items));
      stores : g.M.Memory.stored l.memory
          ≡ g.M.Memory.storing (g.M.Memory.stored l.fn.memory) (stores_of (scatter_writes l.chain.parts 0 (l.fn.head ++ l.written.items)));
      size : g.M.Memory.extent l.memory ≡ g.M.Memory.extent l.fn.memory;
    }

abbrev pub decreases-loop-cursor : goal.decreases-loop-cursor
decreases-loop-cursor g l = length l.left
