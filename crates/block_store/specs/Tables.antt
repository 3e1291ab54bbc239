-- What stands in slots.
use Rattle.std.specs.Prelude.{ℕ, ◌*◌, ◌/◌, ◌%◌, List, Option, Some, None, min}
use Rattle.std.specs.List.{slice_get}

-- what has number n in a slot, if there is one
abbrev pub in_slot : {T A : Type 0} → (T → ℕ → A) → A → Option T → ℕ → A
in_slot at none None n = none
in_slot at none (Some slot) n = at slot n

-- what has number n among slots that have so many each
abbrev pub in_slots : {T A : Type 0} → ℕ → (T → ℕ → A) → A → List T → ℕ → A
in_slots rows at none slots n = in_slot at none (slice_get slots (n / rows)) (n % rows)

-- how many rows a slot has for a table whose slots have n for theirs
abbrev pub more_rows : ℕ → ℕ
more_rows n = min (n * 64) 18446744073709551615
