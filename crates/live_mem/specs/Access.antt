-- What was asked of a bus, the latest first, and what the latest phase knows by it: the bytes that it loaded, and the bytes
-- that it stored. A phase begins at the latest Begins.
use Rattle.std.specs.Prelude.{ℕ, ◌≡◌, ◌+◌, ◌-◌, ◌<◌, ◌≤◌, ◌⊎◌, ◌&&◌, nat_le, nat_lt, Bool, cond, List, [], ◌∷◌, ◌++◌, length, get_or}
use Rattle.guest_mem.specs.Memory.{with_bytes}
use Rattle.guest_mem.specs.Stores.{Store, stores_at}

pub data Access : Type 0 where
  Begins : Access
  -- from this address on, these bytes
  Loads : ℕ → List ℕ → Access
  Stores : ℕ → List ℕ → Access

-- so many bytes from a on have the address p
abbrev pub spans : ℕ → ℕ → ℕ → Bool
spans a n p = nat_le a p && nat_lt p (a + n)

-- the byte at p by the loads of the phase: the first load that has the address says it; d where none has it
abbrev pub loaded : List Access → ℕ → ℕ → ℕ
loaded [] p d = d
loaded (Begins ∷ past) p d = d
loaded (Loads a bs ∷ past) p d = loaded past p (cond (spans a (length bs) p) (get_or bs (p - a) 0) d)
loaded (Stores a bs ∷ past) p d = loaded past p d

-- memory with the stores of the phase put over it, the first one first
abbrev pub stored : List Access → List ℕ → List ℕ
stored [] m = m
stored (Begins ∷ past) m = m
stored (Loads a bs ∷ past) m = stored past m
stored (Stores a bs ∷ past) m = with_bytes (stored past m) a bs

-- all that was stored, the first one first, in whatever phase
abbrev pub all_stores : List Access → List Store
all_stores [] = []
all_stores (Begins ∷ past) = all_stores past
all_stores (Loads a bs ∷ past) = all_stores past
all_stores (Stores a bs ∷ past) = all_stores past ++ stores_at a bs

-- each element is a byte
abbrev pub AreBytes : List ℕ → Type 0
AreBytes m = (k : ℕ) → get_or m k 0 < 256

-- memory agrees with the loads of the phase: each byte that was loaded is the first that a load gave
pub record Agrees (size : ℕ) (log : List Access) (m : List ℕ) : Type 0 where
  pub sized : length m ≡ size
  pub bytes : AreBytes m
  pub there : (p : ℕ) → p < size → loaded log p (get_or m p 0) ≡ get_or m p 0

-- Memory may be m: it agreed with what the phase loaded, and then had what the phase stored.
abbrev pub MayBe : ℕ → List Access → List ℕ → Type 0
MayBe size log m = (m₀ : List ℕ) × Agrees size log m₀ × (m ≡ stored log m₀) × (length m ≡ size) × AreBytes m

-- the phase stored nothing that changes memory
abbrev pub StoredNothing : List Access → Type 0
StoredNothing log = (m : List ℕ) → stored log m ≡ m

-- no load of the phase has the address
abbrev pub WasNotRead : List Access → ℕ → Type 0
WasNotRead log p = (d : ℕ) → loaded log p d ≡ d

-- one has it, and says which byte stands there
abbrev pub WasRead : List Access → ℕ → Type 0
WasRead log p = (d e : ℕ) → loaded log p d ≡ loaded log p e

-- a read of n bytes from addr on asks the bus for them, once, and for nothing else; or for nothing, where each was read
abbrev pub Asks : List Access → List Access → ℕ → ℕ → Type 0
Asks log new_log addr n =
    ((fresh : List ℕ) × (length fresh ≡ n) × (new_log ≡ Loads addr fresh ∷ log))
    ⊎ ((new_log ≡ log) × ((p : ℕ) → addr ≤ p → p < addr + n → WasRead log p))
