use Rattle.std.proofs.Common.{◌≡◌, ℕ, ◌+◌, ◌<◌, length, take, get_or}
use Rattle.live_mem.specs.Kept.{valued}
use Rattle.live_mem.proofs.kept.Kept.put_spans_over.Given as goal

abbrev pub invariant-loop-span : goal.invariant-loop-span
invariant-loop-span l =
    record {
      len : length l.out ≡ length l.fn.out;
      over : (i : ℕ) → i < length l.fn.out → get_or l.out i 0 ≡ valued (take l.span-index l.span-items) l.self.long.bytes (l.addr + i) (get_or l.fn.out i 0);
    }
