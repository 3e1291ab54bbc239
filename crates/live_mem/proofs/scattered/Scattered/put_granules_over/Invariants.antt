use Rattle.std.proofs.Common.{◌≡◌, ℕ, ◌+◌, ◌/◌, ◌<◌, ◌≤◌, length, get_or}
use Rattle.live_mem.specs.Scattered.{scattered_at}
use Rattle.live_mem.proofs.scattered.Scattered.put_granules_over.Given as goal

abbrev pub invariant-loop-key : goal.invariant-loop-key
invariant-loop-key l =
    record {
      len : length l.out ≡ length l.fn.out;
      done : (i : ℕ) → i < length l.fn.out → (l.addr + i) / 16 < l.key → get_or l.out i 0 ≡ scattered_at l.self (l.addr + i) (get_or l.fn.out i 0);
      ahead : (i : ℕ) → i < length l.fn.out → l.key ≤ (l.addr + i) / 16 → get_or l.out i 0 ≡ get_or l.fn.out i 0;
    }
