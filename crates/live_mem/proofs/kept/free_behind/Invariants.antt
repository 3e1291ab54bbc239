use Rattle.std.proofs.Common.{◌≤◌, ◌<◌, ◌^◌, List, ℕ, take}
use Rattle.live_mem.specs.Kept.{IsFree}
use Rattle.live_mem.proofs.kept.free_behind.Given as goal

abbrev pub invariant-loop-span : goal.invariant-loop-span
invariant-loop-span l =
    record {
      from : l.end ≤ l.from;
      to : l.to < 2 ^ 64;
      free : (bytes : List ℕ) → IsFree (take l.span-index l.spans) bytes l.from l.to;
    }
