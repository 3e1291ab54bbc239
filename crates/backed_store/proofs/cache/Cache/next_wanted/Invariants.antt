use Rattle.std.proofs.Common.{◌≡◌, ℕ, ◌<◌, false, IsTrue}
use Rattle.backed_store.specs.Marks.{is_coming, is_wanted, has_room}
use Rattle.backed_store.specs.Caches.{mark_at, state_at, IsKept}
use Rattle.backed_store.specs.Queues.{queue_len}
use Rattle.backed_store.proofs.cache.Cache.next_wanted.Given as goal

-- the pages are as before
abbrev pub invariant-loop-page : goal.invariant-loop-page
invariant-loop-page l = record {
  kept : IsKept l.fn.self l.self;
  coming : (p : ℕ) → p < l.end → IsTrue (is_coming (mark_at l.fn.self p)) → IsTrue (is_coming (mark_at l.self p));
  room : (p : ℕ) → IsTrue (has_room (mark_at l.fn.self p)) → IsTrue (has_room (mark_at l.self p));
  wanted : (p : ℕ) → IsTrue (is_wanted (mark_at l.fn.self p)) → (state_at l.fn.self p).held ≡ false → p < l.end →
      IsTrue (is_wanted (mark_at l.self p));
  budget : l.self.budget ≡ l.fn.self.budget;
}

abbrev pub decreases-loop-page : goal.decreases-loop-page
decreases-loop-page l = queue_len l.self.wanted
