-- What a phase keeps of many short reads: granules of 16 bytes, each under the number of those before it in memory.
use Rattle.std.specs.Prelude.{ℕ, ◌/◌, ◌%◌, List, get_or, Option, Some, None}
use Rattle.std.specs.Ordering.{nat_cmp}
use Rattle.std.specs.BTreeMap.{get}
use Rattle.live_mem.specs.declared.scattered.Scattered.{Scattered}

-- the byte that is kept, or d
abbrev pub byte_or : Option ℕ → ℕ → ℕ
byte_or None d = d
byte_or (Some b) d = b

-- the byte at an index of a granule, if there is one; d where none is kept
abbrev pub in_granule : Option (List (Option ℕ)) → ℕ → ℕ → ℕ
in_granule None j d = d
in_granule (Some granule) j d = byte_or (get_or granule j None) d

-- the byte at an address by these granules; d where none is kept
abbrev pub scattered_at : Scattered → ℕ → ℕ → ℕ
scattered_at s p d = in_granule (get nat_cmp s.granules (p / 16)) (p % 16) d
