-- The pages that a cache has.
use Rattle.std.specs.Prelude.{◌≡◌, ℕ, ◌+◌, ◌^◌, ◌<◌, ◌≤◌, List, Option, IsTrue}
use Rattle.backed_store.specs.declared.mark.Mark.{Mark}
use Rattle.backed_store.specs.declared.cache.Cache.{Cache}
use Rattle.backed_store.specs.Marks as marks
use Rattle.backed_store.specs.Marks.{State, state_of, is_dirty, is_rewritten, dues_of}
use Rattle.backed_store.specs.Slots as slots

-- what is known of page p
abbrev pub mark_at : Cache → ℕ → Option Mark
mark_at c p = slots.mark_at c.slots p

-- the state of page p
abbrev pub state_at : Cache → ℕ → State
state_at c p = state_of (mark_at c p)

-- the bytes of page p
abbrev pub bytes_at : Cache → ℕ → List ℕ
bytes_at c p = slots.bytes_at c.slots p

-- the number of the oldest change of page p that the host's storage may lack
abbrev pub number_at : Cache → ℕ → ℕ
number_at c p = marks.number_of (mark_at c p)

-- the number of the first change of page p since the host was given it
abbrev pub again_at : Cache → ℕ → ℕ
again_at c p = marks.again_of (mark_at c p)

-- changes are numbered on, and of those that were numbered before no more is due
pub record OwesNoMore (old new : Cache) : Type 0 where
  pub latest : old.latest ≤ new.latest
  pub dues : (n p : ℕ) → n ≤ old.latest → n + 1 < 2 ^ 64 → dues_of n (mark_at new p) ≤ dues_of n (mark_at old p)

-- each page that is in memory is as before, and no page came
pub record IsKept (old new : Cache) : Type 0 where
  pub states : (p : ℕ) → state_at new p ≡ state_at old p
  pub bytes : (p : ℕ) → IsTrue (state_at old p).held → bytes_at new p ≡ bytes_at old p
  pub numbers : (p : ℕ) → IsTrue (is_dirty (state_at old p)) → number_at new p ≡ number_at old p
  pub again : (p : ℕ) → IsTrue (is_rewritten (state_at old p)) → again_at new p ≡ again_at old p
  pub owing : OwesNoMore old new
