-- What a phase does in a memory that others may write too. Three lists of bytes stand for that memory: found by the
-- phase, left by its writes, and seen behind them.
use Rattle.std.specs.Prelude.{ℕ, Bool, List}
use Rattle.device_model.specs.Parts.{IsSeen}

-- whatever may be seen afterwards, there is a memory that may have been found, and what was left of it
abbrev pub EachSeen : Bool → (List ℕ → Type 0) → (List ℕ → Type 0) → (List ℕ → List ℕ → List ℕ → Type 0) → Type 0
EachSeen shared before after Does =
    (seen : List ℕ) → after seen
    → (found : List ℕ) × before found × ((left : List ℕ) × IsSeen shared left seen × Does found left seen)

-- it was done by one reading: on whichever bytes may stand there once memory was read, and on some of these whatever may be
-- seen afterwards
pub record ByOneReading {X : Type 0} (shared : Bool) (may_be : X → List ℕ → Type 0) (x y : X)
    (Does : List ℕ → List ℕ → List ℕ → Type 0) : Type 0 where
  pub read : X
  pub stays : (m : List ℕ) → may_be read m → may_be x m
  pub each_seen : EachSeen shared (may_be read) (may_be y) Does
  pub each_found : (found : List ℕ) → may_be read found
      → (left : List ℕ) × (seen : List ℕ) × IsSeen shared left seen × Does found left seen
