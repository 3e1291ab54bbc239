-- The least number of the outstanding chains in their table.
use Rattle.std.specs.Prelude.{ℕ, ◌≡◌, ◌<◌, ◌≤◌, Bool, false, nat_eq, List, Option, Some, None, get_or, min}
use Rattle.ring_core.specs.declared.outstanding.OutstandingChain.{OutstandingChain}
use Rattle.ring_core.specs.declared.by_id.IdAndChain.{IdAndChain}

-- whether a chain has this id
abbrev pub is_under : Option IdAndChain → ℕ → Bool
is_under None id = false
is_under (Some one) id = nat_eq one.id id

-- some chain under the first so many heads or ids has this number, and none a lower one
pub record IsLeast (chains : List (Option OutstandingChain)) (ids n : ℕ) : Type 0 where
  pub there : (id : ℕ) × (c : OutstandingChain) × (id < ids) × (get_or chains id None ≡ Some c) × (c.number ≡ n)
  pub least : (id : ℕ) (c : OutstandingChain) → id < ids → get_or chains id None ≡ Some c → n ≤ c.number

-- the least number of the chains under the first so many heads or ids, if there is one
abbrev pub IsLeastBelow : List (Option OutstandingChain) → ℕ → Option ℕ → Type 0
IsLeastBelow chains ids None = (id : ℕ) → id < ids → get_or chains id None ≡ None
IsLeastBelow chains ids (Some n) = IsLeast chains ids n

-- the lesser of a number and that of a chain, where there are such
abbrev pub lesser_of : Option ℕ → Option OutstandingChain → Option ℕ
lesser_of least None = least
lesser_of None (Some c) = Some c.number
lesser_of (Some n) (Some c) = Some (min n c.number)
