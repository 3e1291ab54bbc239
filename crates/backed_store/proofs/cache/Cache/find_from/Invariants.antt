use Rattle.std.proofs.Common.{ℕ, ◌^◌, ◌-◌, ◌<◌, ◌≤◌, IsTrue}
use Rattle.backed_store.specs.Marks.{may_go}
use Rattle.backed_store.specs.Caches.{mark_at}
use Rattle.backed_store.specs.Spared.{is_spared}
use Rattle.backed_store.proofs.cache.Cache.find_from.Given as goal

-- each page before the number must stay
abbrev pub invariant-loop-page : goal.invariant-loop-page
invariant-loop-page l = record {
  stay : (p : ℕ) → l.number ≤ p → p < l.at → IsTrue (may_go (mark_at l.self p)) → IsTrue (is_spared l.spared p);
}

abbrev pub decreases-loop-page : goal.decreases-loop-page
decreases-loop-page l = 2 ^ 64 - l.at
