use Rattle.std.proofs.Common.{◌≡◌, ℕ, IsTrue}
use Rattle.backed_store.specs.Marks.{is_dirty, is_rewritten}
use Rattle.backed_store.specs.Caches.{state_at, bytes_at, number_at, again_at, OwesNoMore}
use Rattle.backed_store.specs.Queues.{queue_len}
use Rattle.backed_store.proofs.cache.Cache.next_unwritten.Given as goal

-- the pages are as before
abbrev pub invariant-loop-page : goal.invariant-loop-page
invariant-loop-page l = record {
  states : (p : ℕ) → state_at l.self p ≡ state_at l.fn.self p;
  bytes : (p : ℕ) → IsTrue (state_at l.fn.self p).held → bytes_at l.self p ≡ bytes_at l.fn.self p;
  numbers : (p : ℕ) → IsTrue (is_dirty (state_at l.fn.self p)) → number_at l.self p ≡ number_at l.fn.self p;
  again : (p : ℕ) → IsTrue (is_rewritten (state_at l.fn.self p)) → again_at l.self p ≡ again_at l.fn.self p;
  owing : OwesNoMore l.fn.self l.self;
  budget : l.self.budget ≡ l.fn.self.budget;
}

abbrev pub decreases-loop-page : goal.decreases-loop-page
decreases-loop-page l = queue_len l.self.unkept.unwritten
