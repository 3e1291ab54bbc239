-- Flushes: whether the host's storage has what was changed before one began.
use Rattle.std.specs.Prelude.{◌≡◌, ℕ, ◌&&◌, Bool, false, nat_le}
use Rattle.backed_store.specs.Marks as marks
use Rattle.backed_store.specs.Caches.{mark_at}
use Rattle.backed_store.specs.Stores.{number_of}
use Rattle.backed_store.specs.declared.backed.BackedStore.{BackedStore}

-- whether page p owes the host's storage change n or an older one; a page that is about to be changed counts as changed
abbrev pub owes : BackedStore → ℕ → ℕ → Bool
owes s n p = marks.has_room (mark_at s.cache p) && nat_le (number_of s p) n

-- no page owes the host's storage change n or an older one
abbrev pub IsFlushed : BackedStore → ℕ → Type 0
IsFlushed s n = (p : ℕ) → owes s n p ≡ false
