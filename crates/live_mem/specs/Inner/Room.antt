-- Beside `specs/Room.antt`; no promise rests on it.
use Rattle.std.specs.Prelude.{ℕ, ◌+◌, ◌<◌, ◌≤◌, vec_len}
use Rattle.std.specs.Vec.{vec_capacity}
use Rattle.live_mem.specs.declared.kept.Kept.{Kept}

-- a read of so many bytes can be kept with no memory taken
pub record Takes (k : Kept) (len : ℕ) : Type 0 where
  pub span_fits : vec_len k.spans + 1 ≤ vec_capacity k.spans
  pub bytes_fit : 16 < len → len ≤ k.long.spare
