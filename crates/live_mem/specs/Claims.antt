-- Runs of bytes that a phase claims, to read each of them once.
use Rattle.std.specs.Prelude.{ℕ, ◌≡◌, ◌<◌, ◌≤◌, Bool, true, false, List, length, get_or}
use Rattle.live_mem.specs.Access.{Access, spans, loaded}
use Rattle.live_mem.specs.declared.claims.Claim.{Claim}

-- the run has this address
abbrev pub claims_at : List Claim → ℕ → Claim → ℕ → Bool
claims_at rs k e p = spans (get_or rs k e).addr (get_or rs k e).len p

-- no two of the runs have an address in common
abbrev pub AreApart : List Claim → Type 0
AreApart rs = (j k p : ℕ) (e : Claim) → j < k → k < length rs → claims_at rs j e p ≡ true → claims_at rs k e p ≡ false

-- all addresses of the runs lie from low up to high
abbrev pub LieIn : List Claim → ℕ → ℕ → Type 0
LieIn rs low high = (k p : ℕ) (e : Claim) → k < length rs → claims_at rs k e p ≡ true → (low ≤ p) × (p < high)

-- no load of the phase has an address of a run from the n-th on
abbrev pub AreUnread : List Access → List Claim → ℕ → Type 0
AreUnread log rs n = (k p d : ℕ) (e : Claim) → n ≤ k → k < length rs → claims_at rs k e p ≡ true → loaded log p d ≡ d
