-- How far the latest flush of a backed store is.
use Rattle.std.specs.Prelude.{ℕ, ◌≡◌, ◌≤◌, ◌/◌, ◌&&◌, not, Bool, true, false, nat_le, List, [], ◌∷◌, All, length, drop, if◌then◌else◌}
use Rattle.block_store.specs.Storage.{Ledger}
use Rattle.block_store.specs.Progress.{Progress, all_progress}
use Rattle.block_store.specs.Inner.Hosted.{Hosted}
use Rattle.backed_store.specs.Stores.{ledger_of, storage_of, backing_of, is_dirty, is_writing, is_rewritten, number_of, again_of}
use Rattle.backed_store.specs.declared.backed.BackedStore.{BackedStore}

-- what the storage keeps of page p may lack change n of the page, or an older one
abbrev pub is_kept_due : BackedStore → ℕ → ℕ → Bool
is_kept_due s n p = is_dirty s p && nat_le (number_of s p) n

-- what the host was last given of page p may
abbrev pub is_given_due : BackedStore → ℕ → ℕ → Bool
is_given_due s n p =
    if is_writing s p then is_rewritten s p && nat_le (again_of s p) n else is_dirty s p && nat_le (number_of s p) n

-- how far a flush of the changes up to n is as it begins, where the store is so
abbrev pub begun : ℕ → List BackedStore → Progress
begun n [] = record { kept = λ p. false; given = λ p. false }
begun n (s ∷ more) = record { kept = λ p. not (is_kept_due s n p); given = λ p. not (is_given_due s n p) }

-- how much had been done with the storage by then
abbrev pub done_by : List BackedStore → ℕ
done_by [] = 0
done_by (s ∷ more) = length (ledger_of s).dealings

-- how far it is by what a storage was dealt
abbrev pub progress_by : ℕ → List BackedStore → Ledger → Progress
progress_by n began l = all_progress (drop (done_by began) l.dealings) (begun n began)

-- with that
abbrev pub hosted_as : Ledger → Progress → Hosted
hosted_as l x = record { ledger = l; progress = x }

abbrev pub hosted_by : ℕ → List BackedStore → Ledger → Hosted
hosted_by n began l = hosted_as l (progress_by n began l)

-- a store that a flush of the changes up to n waits for, which began when the store was so: where nothing is due of a page, the
-- flush has what it waits for; and what the host was given of a page that is as the storage keeps it is the same, as is all else
-- that the storage may have of it
pub record IsFenced (n : ℕ) (began : List BackedStore) (s : BackedStore) : Type 0 where
  pub behind : done_by began ≤ length (ledger_of s).dealings
  pub kept : (p : ℕ) → is_kept_due s n p ≡ false → (progress_by n began (ledger_of s)).kept p ≡ true
  pub given : (p : ℕ) → is_given_due s n p ≡ false → (progress_by n began (ledger_of s)).given p ≡ true
  pub idle : (b : ℕ) → is_dirty s (b / 8) ≡ false → is_writing s (b / 8) ≡ false → (storage_of s).given b ≡ backing_of s b
  pub unkept : (b : ℕ) → is_dirty s (b / 8) ≡ false → All (λ x. x ≡ backing_of s b) ((storage_of s).unkept b)
