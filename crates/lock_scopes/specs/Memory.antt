-- What the guest's own writes and reads do to the memory, and what they answer.
use Rattle.std.specs.Prelude.{ℕ, ◌≡◌, List, length, Result, Ok, Err}
use Rattle.guest_mem.specs.Memory.{bytes_at, with_bytes, LiesIn}
use Rattle.guest_mem.specs.declared.memory.MemFault.{MemFault}
use Rattle.guest_mem.specs.declared.memory.MemFault.TheVariants.{Outside}

-- own: bytes are written at an address, and nothing else changes; or, exactly where one of them would lie outside,
-- nothing changes
abbrev pub Writes : List ℕ → ℕ → List ℕ → Result (Unit {0}) MemFault → List ℕ → Type 0
Writes m addr bytes (Ok done) n = LiesIn (length m) addr (length bytes) × (n ≡ with_bytes m addr bytes)
Writes m addr bytes (Err fault) n = (LiesIn (length m) addr (length bytes) → ⊥) × (fault ≡ Outside) × (n ≡ m)

-- own: as many bytes as there is room for are those at an address; or, exactly where one of them lies outside, the
-- room is as it was
abbrev pub Reads : List ℕ → ℕ → List ℕ → Result (Unit {0}) MemFault → List ℕ → Type 0
Reads m addr room (Ok done) bytes = LiesIn (length m) addr (length room) × (bytes ≡ bytes_at m addr (length room))
Reads m addr room (Err fault) bytes = (LiesIn (length m) addr (length room) → ⊥) × (fault ≡ Outside) × (bytes ≡ room)
