-- Memory behind the completion of a chain.
use Rattle.std.specs.Prelude.{ℕ, ◌≡◌, Bool, false, List, length}
use Rattle.ring_core.specs.Writes.{Write, all_written}

-- memory that nobody else writes is seen as it was left; any other has as many bytes
pub record SeenAs (shared : Bool) (left seen : List ℕ) : Type 0 where
  pub own : shared ≡ false → seen ≡ left
  pub long : length seen ≡ length left

-- whatever may be seen afterwards, it is so behind these writes into a memory that may have been found
abbrev pub SeenBehind : Bool → (List ℕ → Type 0) → (List ℕ → Type 0) → List Write → Type 0
SeenBehind shared before after ws =
    (seen : List ℕ) → after seen → (found : List ℕ) × before found × SeenAs shared (all_written found ws) seen
