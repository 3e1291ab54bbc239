use Rattle.std.proofs.Common.{◌≡◌, ℕ, ◌-◌, ◌/◌, ◌<◌, ◌≤◌, length, cond, get_or}
use Rattle.std.specs.Ordering.{nat_cmp}
use Rattle.std.specs.BTreeMap.{get}
use Rattle.live_mem.specs.Access.{spans}
use Rattle.live_mem.specs.Scattered.{scattered_at}
use Rattle.live_mem.proofs.scattered.Scattered.keep.Given as goal

abbrev pub invariant-loop-key : goal.invariant-loop-key
invariant-loop-key l =
    record {
      done : (p d : ℕ) → p / 16 < l.key → scattered_at l.self p d
          ≡ cond (spans l.addr (length l.out) p) (get_or l.out (p - l.addr) 0) (scattered_at l.fn.self p d);
      ahead : (k : ℕ) → l.key ≤ k → get nat_cmp l.self.granules k ≡ get nat_cmp l.fn.self.granules k;
    }
