-- What becomes of a page that is considered for eviction.
use Rattle.std.specs.Prelude.{◌≡◌, ◌≢◌, ℕ, ◌==◌, false, List, None, IsTrue, if◌then◌else◌}
use Rattle.backed_store.specs.declared.cache.Cache.{Cache}
use Rattle.backed_store.specs.declared.page_range.PageRange.{PageRange}
use Rattle.backed_store.specs.Marks.{state_of, is_clean, is_dirty, is_rewritten, is_reading, may_go}
use Rattle.backed_store.specs.Caches.{mark_at, state_at, bytes_at, number_at, again_at, OwesNoMore, IsKept}
use Rattle.backed_store.specs.Spared.{is_spared}

-- a page that may go went, and no other
pub record IsEvicted (ranges : List PageRange) (old new : Cache) (page : ℕ) : Type 0 where
  pub clean : IsTrue (is_clean (state_at old page))
  pub spared : is_spared ranges page ≡ false
  pub read : is_reading (mark_at old page) ≡ false
  pub written : (state_at old page).writing ≡ false
  pub states : (p : ℕ) → state_at new p ≡ (if p == page then state_of None else state_at old p)
  pub bytes : (p : ℕ) → p ≢ page → IsTrue (state_at old p).held → bytes_at new p ≡ bytes_at old p
  pub numbers : (p : ℕ) → IsTrue (is_dirty (state_at old p)) → number_at new p ≡ number_at old p
  pub again : (p : ℕ) → IsTrue (is_rewritten (state_at old p)) → again_at new p ≡ again_at old p
  pub owing : OwesNoMore old new

-- each page is as before
pub record IsPassed (old new : Cache) : Type 0 where
  pub kept : IsKept old new
  pub reading : (p : ℕ) → is_reading (mark_at new p) ≡ is_reading (mark_at old p)
  pub going : (p : ℕ) → may_go (mark_at new p) ≡ may_go (mark_at old p)
