use Rattle.std.proofs.Common.{ℕ, ◌<◌}
use Rattle.config.specs.ConfigFault.{Rises}
use Rattle.config.proofs.config_fault.first_fall.Given as goal

-- each unit so far stands above the one before it
abbrev pub invariant-loop-unit_index : goal.invariant-loop-unit_index
invariant-loop-unit_index l = (k : ℕ) → 0 < k → k < l.unit_index → Rises l.units k
