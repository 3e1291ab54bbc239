-- Rests on `specs/Pages.antt`; no promise rests on it.
use Rattle.std.specs.Prelude.{ℕ, ◌+◌, ◌-◌, ◌/◌, ◌&&◌, not, Bool, nat_le, nat_lt}
use Rattle.block_store.specs.Blocks.{is_within}

-- whether block b shares a page with one of the count blocks from first on, and is none of them
abbrev pub is_beside : ℕ → ℕ → ℕ → Bool
is_beside first count b =
    nat_lt 0 count && nat_le (first / 8) (b / 8) && nat_le (b / 8) ((first + count - 1) / 8)
    && not (is_within first count b)
