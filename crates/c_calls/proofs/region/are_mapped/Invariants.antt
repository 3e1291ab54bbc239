use Rattle.std.proofs.Common.{ℕ, ◌+◌, ◌≤◌, ◌<◌}
use Rattle.c_calls.specs.Mapped.{HasByte}
use Rattle.c_calls.proofs.region.are_mapped.Given as goal

-- each turn came further, and the bytes before are mapped
abbrev pub invariant-loop-turn : goal.invariant-loop-turn
invariant-loop-turn l = (l.addr + l._turn ≤ l.at) × ((p : ℕ) → l.addr ≤ p → p < l.at → HasByte l.regions p)
