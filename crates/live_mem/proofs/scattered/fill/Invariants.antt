use Rattle.std.proofs.Common.{◌≡◌, ℕ, ◌+◌, ◌-◌, ◌*◌, ◌<◌, ◌≤◌, length, cond, get_or, None, Some}
use Rattle.live_mem.specs.Access.{spans}
use Rattle.live_mem.proofs.scattered.fill.Given as goal

abbrev pub invariant-loop-index : goal.invariant-loop-index
invariant-loop-index l =
    record {
      done : (j : ℕ) → j < l.index → get_or l.granule j None
          ≡ cond (spans l.addr (length l.out) (16 * l.key + j)) (Some (get_or l.out (16 * l.key + j - l.addr) 0)) (get_or l.fn.granule j None);
      ahead : (j : ℕ) → l.index ≤ j → get_or l.granule j None ≡ get_or l.fn.granule j None;
    }
