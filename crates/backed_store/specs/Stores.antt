-- A backed store.
use Rattle.std.specs.Prelude.{◌≡◌, ℕ, ◌+◌, ◌/◌, ◌%◌, ◌^◌, ◌<◌, ◌≤◌, Bool, List, map, IsTrue, if◌then◌else◌}
use Rattle.block_store.specs.Blocks.{Blocks, nth_block}
use Rattle.backed_store.specs.Marks as marks
use Rattle.backed_store.specs.Marks.{State}
use Rattle.backed_store.specs.Caches.{mark_at, state_at, bytes_at, number_at, again_at}
use Rattle.block_store.specs.Storage.{Storage, Ledger, opening}
use Rattle.backed_store.specs.Backing.{plain, after_all}
use Rattle.backed_store.specs.Noted as notes
use Rattle.backed_store.specs.declared.backed.BackedStore.{BackedStore}

-- what the host was given, and what its storage has, as far as the host said
abbrev pub storage_of : BackedStore → Storage
storage_of s = after_all s.dealings.items (opening s.content.items)

-- how that came about
abbrev pub ledger_of : BackedStore → Ledger
ledger_of s = record { content = s.content.items; dealings = map plain s.dealings.items }

-- the blocks that the host's storage has, as far as the host said
abbrev pub backing_of : BackedStore → Blocks
backing_of s = (storage_of s).kept

-- whether block b is in memory
abbrev pub holds : BackedStore → ℕ → Bool
holds s b = (state_at s.cache (b / 8)).held

-- whether it is, or the host is asked for its page
abbrev pub is_coming : BackedStore → ℕ → Bool
is_coming s b = marks.is_coming (mark_at s.cache (b / 8))

-- whether it can be changed
abbrev pub has_room : BackedStore → ℕ → Bool
has_room s b = marks.has_room (mark_at s.cache (b / 8))

-- the blocks, whether they are in memory or not
abbrev pub contents : BackedStore → Blocks
contents s b = if holds s b then nth_block (bytes_at s.cache (b / 8)) (b % 8) else backing_of s b

-- whether page p differs from what the host's storage has, as far as the store knows
abbrev pub is_dirty : BackedStore → ℕ → Bool
is_dirty s p = marks.is_dirty (state_at s.cache p)

-- whether the host is to be asked for page p
abbrev pub is_wanted : BackedStore → ℕ → Bool
is_wanted s p = marks.is_wanted (mark_at s.cache p)

-- whether the host was asked for page p, and has not answered
abbrev pub is_reading : BackedStore → ℕ → Bool
is_reading s p = marks.is_reading (mark_at s.cache p)

-- whether the host was given page p, and has not answered
abbrev pub is_writing : BackedStore → ℕ → Bool
is_writing s p = marks.is_writing (state_at s.cache p)

-- whether page p was changed since the host was given it, and the host has not answered
abbrev pub is_rewritten : BackedStore → ℕ → Bool
is_rewritten s p = marks.is_rewritten (state_at s.cache p)

-- whether page p may go: it is clean, the host has nothing to do with it, and it isn't about to be changed
abbrev pub may_go : BackedStore → ℕ → Bool
may_go s p = marks.may_go (mark_at s.cache p)

-- the number of the oldest change of page p that the host's storage may lack
abbrev pub number_of : BackedStore → ℕ → ℕ
number_of s p = number_at s.cache p

-- the number of the first change of page p since the host was given it
abbrev pub again_of : BackedStore → ℕ → ℕ
again_of s p = again_at s.cache p

-- the number of the latest change
abbrev pub latest_of : BackedStore → ℕ
latest_of s = s.cache.latest

-- the latest pages that the host said it can't read, the oldest first
abbrev pub noted : BackedStore → List ℕ
noted s = notes.noted s.lost_pages

-- whether page p is one of them
abbrev pub is_noted : BackedStore → ℕ → Bool
is_noted s p = notes.is_noted s.lost_pages p

-- the latest pages that the host said it can't write, the oldest first
abbrev pub noted_denied : BackedStore → List ℕ
noted_denied s = notes.noted s.denied_pages

-- whether page p is one of them
abbrev pub is_noted_denied : BackedStore → ℕ → Bool
is_noted_denied s p = notes.is_noted s.denied_pages p

-- what is due of page p until the host's storage has its changes up to n: 0 where it has them
abbrev pub dues : BackedStore → ℕ → ℕ → ℕ
dues s n p = marks.dues_of n (mark_at s.cache p)

-- changes are numbered on, and of those that were numbered before no more is due
pub record OwesNoMore (old new : BackedStore) : Type 0 where
  pub latest : latest_of old ≤ latest_of new
  pub dues : (n p : ℕ) → n ≤ latest_of old → n + 1 < 2 ^ 64 → dues new n p ≤ dues old n p

-- page p owes the host's storage the same changes, if it was dirty
pub record IsOwed (old new : BackedStore) (p : ℕ) : Type 0 where
  pub dirty : IsTrue (is_dirty old p) → IsTrue (is_dirty new p)
  pub number : IsTrue (is_dirty old p) → number_of new p ≡ number_of old p
  pub rewritten : IsTrue (is_rewritten old p) → IsTrue (is_rewritten new p)
  pub again : IsTrue (is_rewritten old p) → again_of new p ≡ again_of old p

-- all of a store but which pages are in memory
pub record IsSame (old new : BackedStore) : Type 0 where
  pub blocks : (b : ℕ) → contents new b ≡ contents old b
  pub size : new.capacity ≡ old.capacity

-- what the host was given and kept, and is owed
pub record IsHost (old new : BackedStore) : Type 0 where
  pub storage : storage_of new ≡ storage_of old
  pub ledger : ledger_of new ≡ ledger_of old
  pub owed : (p : ℕ) → IsOwed old new p
  pub writing : (p : ℕ) → is_writing new p ≡ is_writing old p
  pub owing : OwesNoMore old new
