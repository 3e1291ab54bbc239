-- The pages that have a slot.
use Rattle.std.specs.Prelude.{ℕ, List, [], Option, Some, None, nat_eq}
use Rattle.std.specs.Option.{option_map}
use Rattle.std.specs.HashMap.{get, hash_map_len}
use Rattle.backed_store.specs.declared.mark.Mark.{Mark}
use Rattle.backed_store.specs.declared.slot.Slot.{Slot}
use Rattle.backed_store.specs.declared.slots.Slots.{Slots}

-- the slot of page p
abbrev pub slot_at : Slots → ℕ → Option Slot
slot_at s p = get nat_eq s.pages p

-- how many pages have one
abbrev pub slot_count : Slots → ℕ
slot_count s = hash_map_len s.pages

-- what is known of page p
abbrev pub mark_at : Slots → ℕ → Option Mark
mark_at s p = option_map (λ x. x.mark) (slot_at s p)

-- the bytes of a page that has a slot
abbrev pub bytes_of : Option Slot → List ℕ
bytes_of None = []
bytes_of (Some slot) = slot.bytes.items

-- the bytes of page p
abbrev pub bytes_at : Slots → ℕ → List ℕ
bytes_at s p = bytes_of (slot_at s p)
