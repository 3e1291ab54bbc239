-- How far a flush is.
use Rattle.std.specs.Prelude.{ℕ, ◌*◌, ◌==◌, ◌||◌, Bool, nat_le, List, [], ◌∷◌, if◌then◌else◌}
use Rattle.block_store.specs.Storage.{Dealing}

-- own: of each page, whether what the storage keeps of it, and what the host was last given of it, is as the page was at a time
-- since a flush began
pub record Progress : Type 0 where
  pub kept : ℕ → Bool
  pub given : ℕ → Bool

-- own: the same once this was done: the host is given a page as it is, and keeps it as it was given; what is cut off is zeros
abbrev pub progress_after : Dealing → Progress → Progress
progress_after (Dealing.Give q bytes) x = record x { given = λ p. p == q || x.given p }
progress_after (Dealing.Keep q) x = record x { kept = λ p. if p == q then x.given p else x.kept p }
progress_after (Dealing.Cut n) x = record { kept = λ p. nat_le n (8 * p) || x.kept p; given = λ p. nat_le n (8 * p) || x.given p }
progress_after d x = x

-- own: once all of this was done, the first of it first
abbrev pub all_progress : List Dealing → Progress → Progress
all_progress [] x = x
all_progress (d ∷ more) x = all_progress more (progress_after d x)
