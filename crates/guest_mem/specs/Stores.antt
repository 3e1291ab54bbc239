-- Stores into memory, byte by byte, the first one first.
use Rattle.std.specs.Prelude.{ℕ, ◌+◌, ◌≡◌, List, [], ◌∷◌, ◌++◌, refl}
use Rattle.guest_mem.specs.Memory.{with_bytes}

-- a byte that is stored at an address
pub record Store : Type 0 where
  pub addr : ℕ
  pub byte : ℕ

-- bytes that are stored from an address on
abbrev pub stores_at : ℕ → List ℕ → List Store
stores_at addr [] = []
stores_at addr (b ∷ bs) = record { addr = addr; byte = b } ∷ stores_at (addr + 1) bs

-- memory once these were stored
abbrev pub all_stored : List ℕ → List Store → List ℕ
all_stored m [] = m
all_stored m (s ∷ ss) = all_stored (with_bytes m s.addr (s.byte ∷ [])) ss

-- stores behind others leave memory as all of them in order
pub stored_in_order : (m : List ℕ) (a b : List Store) → all_stored (all_stored m a) b ≡ all_stored m (a ++ b)
stored_in_order m [] b = refl
stored_in_order m (s ∷ a) b = stored_in_order (with_bytes m s.addr (s.byte ∷ [])) a b
