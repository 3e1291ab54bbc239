use Rattle.std.proofs.Common.{◌≡◌, ℕ, ◌+◌, ◌-◌, ◌*◌, ◌<◌, length, cond, get_or, None}
use Rattle.live_mem.specs.Access.{spans}
use Rattle.live_mem.specs.Scattered.{byte_or}
use Rattle.live_mem.proofs.scattered.put.Given as goal

abbrev pub invariant-loop-index : goal.invariant-loop-index
invariant-loop-index l =
    record {
      len : length l.out ≡ length l.fn.out;
      over : (i : ℕ) → i < length l.fn.out → get_or l.out i 0
          ≡ cond (spans (16 * l.key) l.index (l.addr + i)) (byte_or (get_or l.granule (l.addr + i - 16 * l.key) None) (get_or l.fn.out i 0)) (get_or l.fn.out i 0);
    }
