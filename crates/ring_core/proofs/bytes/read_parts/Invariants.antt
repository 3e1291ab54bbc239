use Rattle.std.proofs.Common.{◌≡◌, ℕ, List, length, take, min}
use Rattle.ring_core.specs.Parts.{readable_bytes, readable_total}
use Rattle.ring_core.proofs.bytes.read_parts.Given as goal

abbrev pub invariant-loop-part : goal.invariant-loop-part
invariant-loop-part g l =
    record {
      size : g.M.Memory.extent l.memory ≡ g.M.Memory.extent l.fn.memory;
      stays : (m : List ℕ) → g.M.Memory.may_be l.memory m → g.M.Memory.may_be l.fn.memory m;
      stores : g.M.Memory.stored l.memory ≡ g.M.Memory.stored l.fn.memory;
      reading : g.M.Memory.is_open l.memory;
      len : length l.bytes ≡ min (readable_total l.parts) l.most;
      at : l.at ≡ min (readable_total (take l.part-index l.parts)) l.most;
      read : (m : List ℕ) → g.M.Memory.may_be l.memory m → take l.at l.bytes ≡ take l.most (readable_bytes m (take l.part-index l.parts));
    }
