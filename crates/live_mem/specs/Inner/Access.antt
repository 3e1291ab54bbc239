-- Rests on `specs/Access.antt`; no promise rests on it.
use Rattle.std.specs.Prelude.{ℕ, ◌≡◌, ◌+◌, ◌<◌, ◌⊎◌, List, ◌∷◌, length, get_or}
use Rattle.live_mem.specs.Access.{Access, Loads, loaded}

-- a read of the bytes from addr on: the bus was asked for them all, and each is the first that the phase loaded of it
pub record LoadsThere (log new_log : List Access) (addr : ℕ) (out : List ℕ) : Type 0 where
  pub fresh : List ℕ
  pub long : length fresh ≡ length out
  pub asked : new_log ≡ Loads addr fresh ∷ log
  pub are : (i : ℕ) → i < length out → get_or out i 0 ≡ loaded log (addr + i) (get_or fresh i 0)

-- the same, or the bus was asked for nothing, since the phase had loaded each of them
abbrev pub ReadsThere : List Access → List Access → ℕ → List ℕ → Type 0
ReadsThere log new_log addr out =
    LoadsThere log new_log addr out
    ⊎ ((new_log ≡ log) × ((i d : ℕ) → i < length out → loaded log (addr + i) d ≡ get_or out i 0))
