-- Room to keep what a phase reads.
use Rattle.std.specs.Prelude.{ℕ, ◌≡◌, ◌+◌, ◌≤◌, [], vec_len}
use Rattle.std.specs.Vec.{vec_capacity}
use Rattle.live_mem.specs.declared.kept.Kept.{Kept}
use Rattle.live_mem.specs.declared.live.LiveMem.{LiveMem}

-- so many more reads, of at most 16 bytes each, can be kept with no memory taken
abbrev pub Holds : Kept → ℕ → Type 0
Holds k n = vec_len k.spans + n ≤ vec_capacity k.spans

-- no run is claimed
abbrev pub ClaimsNothing : {B : Type 0} → LiveMem B → Type 0
ClaimsNothing x = x.claims.runs.items ≡ []

abbrev pub HasRoom : {B : Type 0} → LiveMem B → ℕ → Type 0
HasRoom x n = Holds x.kept n × ClaimsNothing x
