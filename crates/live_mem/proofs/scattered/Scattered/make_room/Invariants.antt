use Rattle.std.proofs.Common.{◌≡◌, ℕ, ◌/◌, ◌<◌, ◌≤◌, IsSome}
use Rattle.std.specs.Ordering.{nat_cmp}
use Rattle.std.specs.BTreeMap.{get}
use Rattle.live_mem.specs.Scattered.{scattered_at}
use Rattle.live_mem.proofs.scattered.Scattered.make_room.Given as goal

abbrev pub invariant-loop-key : goal.invariant-loop-key
invariant-loop-key l =
    record {
      same : (p d : ℕ) → scattered_at l.self p d ≡ scattered_at l.fn.self p d;
      made : (k : ℕ) → l.addr / 16 ≤ k → k < l.key → IsSome (get nat_cmp l.self.granules k);
    }
