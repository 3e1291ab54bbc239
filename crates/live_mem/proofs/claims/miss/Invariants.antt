use Rattle.std.proofs.Common.{◌≡◌, ℕ, ◌<◌, ◌≤◌, true}
use Rattle.live_mem.specs.Claims.{claims_at}
use Rattle.live_mem.specs.declared.claims.Claim.{Claim}
use Rattle.live_mem.proofs.claims.miss.Given as goal

abbrev pub invariant-loop-run : goal.invariant-loop-run
invariant-loop-run l = record { free : (k p : ℕ) (e : Claim) → k < l.run-index → claims_at l.runs k e p ≡ true → l.addr ≤ p → p < l.end → ⊥ }
