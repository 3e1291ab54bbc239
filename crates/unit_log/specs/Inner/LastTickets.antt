-- The last ticket of each queue that came.
use Rattle.std.specs.Prelude.{ℕ, ◌+◌, List, Option, Some, None, get_or}

-- own: one above a number, if there is one
abbrev pub above : Option ℕ → ℕ
above None = 0
above (Some n) = n + 1

-- own: one above the last number of a queue
abbrev pub floor_kept : List (Option ℕ) → ℕ → ℕ
floor_kept last_tickets queue = above (get_or last_tickets queue None)
