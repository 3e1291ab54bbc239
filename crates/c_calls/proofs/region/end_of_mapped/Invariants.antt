use Rattle.std.proofs.Common.{ℕ, ◌≡◌, ◌<◌, slice_get}
use Rattle.std.specs.Prelude.{Some}
use Rattle.c_calls.specs.Mapped.{IsIn}
use Rattle.c_calls.specs.declared.region.Region.{Region}
use Rattle.c_calls.proofs.region.end_of_mapped.Given as goal

-- no region before this one has the address
abbrev pub invariant-loop-k : goal.invariant-loop-k
invariant-loop-k l = (i : ℕ) (r : Region) → i < l.k → slice_get l.regions i ≡ Some r → IsIn r l.addr → ⊥
