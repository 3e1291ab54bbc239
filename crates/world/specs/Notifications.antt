-- Which drivers are owed a notification.
use Rattle.std.specs.Prelude.{ℕ, ◌+◌, ◌*◌, ◌<◌, ◌≤◌, ◌≡◌, nat_lt, Bool, cond, List, [], ◌∷◌, length, slice_get, slice_index_or, Option, Some, None}
use Rattle.device_model.specs.World.{PlainQueue}

-- the number with these binary digits, the lowest first
abbrev pub binary : List Bool → ℕ
binary [] = 0
binary (b ∷ bs) = cond b 1 0 + 2 * binary bs

-- of each queue whether its driver wanted more notices than were known of
abbrev pub owed_of : List ℕ → List PlainQueue → List Bool
owed_of [] qs = []
owed_of (n ∷ ns) [] = []
owed_of (n ∷ ns) (q ∷ qs) = nat_lt n q.notices ∷ owed_of ns qs

abbrev pub notices_in : Option PlainQueue → ℕ
notices_in None = 0
notices_in (Some q) = q.notices

abbrev pub notices_at : List PlainQueue → ℕ → ℕ
notices_at qs i = notices_in (slice_get qs i)

-- what is known of then: all that the driver of each queue that there is wanted
pub record IsAsked (old : List ℕ) (qs : List PlainQueue) (new : List ℕ) : Type 0 where
  pub told : (i : ℕ) → i < length qs → slice_index_or new i 0 ≡ notices_at qs i
  pub kept : (i : ℕ) → length qs ≤ i → slice_index_or new i 0 ≡ slice_index_or old i 0
