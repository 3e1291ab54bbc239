-- Pages that an eviction spares.
use Rattle.std.specs.Prelude.{ℕ, Bool, List, ◌-◌, ◌&&◌, nat_le, nat_lt}
use Rattle.std.specs.List.{list_any}
use Rattle.backed_store.specs.declared.page_range.PageRange.{PageRange}

-- whether page p is one of the range
abbrev pub is_in : ℕ → PageRange → Bool
is_in p range = nat_le range.first p && nat_lt (p - range.first) range.count

-- whether it is in one of the ranges
abbrev pub is_spared : List PageRange → ℕ → Bool
is_spared ranges p = list_any (λ range. is_in p range) ranges
