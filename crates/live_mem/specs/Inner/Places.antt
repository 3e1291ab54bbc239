-- Beside `specs/Scattered.antt`; no promise rests on it.
use Rattle.std.specs.Prelude.{ℕ, ◌+◌, ◌*◌, ◌/◌, ◌<◌, ◌≤◌, IsSome}
use Rattle.std.specs.Ordering.{nat_cmp}
use Rattle.std.specs.BTreeMap.{get}
use Rattle.live_mem.specs.declared.scattered.Scattered.{Scattered}

-- a read of n bytes from addr on can be kept with no memory taken: there is a granule wherever it has a byte
abbrev pub HasPlaces : Scattered → ℕ → ℕ → Type 0
HasPlaces s addr n = (k : ℕ) → addr / 16 ≤ k → 16 * k < addr + n → IsSome (get nat_cmp s.granules k)
