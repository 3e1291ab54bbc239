-- Recorded calls of a bus, the oldest first, and their bytes one behind the other, as accesses, the latest first.
use Rattle.std.specs.Prelude.{ℕ, ◌+◌, List, [], ◌∷◌, take, drop}
use Rattle.live_mem.specs.Access.{Access}
use Rattle.live_mem.specs.declared.recorded.Call.{Call}
use Rattle.live_mem.specs.declared.recorded.Kind.{Kind}
use Rattle.live_mem.specs.declared.recorded.Kind.TheVariants.{Begin, Load, Store}

-- how many bytes they have in all
abbrev pub lengths : List Call → ℕ
lengths [] = 0
lengths (c ∷ cs) = c.len + lengths cs

abbrev pub access_in : Kind → ℕ → List ℕ → Access
access_in Begin addr bs = Access.Begins
access_in Load addr bs = Access.Loads addr bs
access_in Store addr bs = Access.Stores addr bs

abbrev pub access_of : Call → List ℕ → Access
access_of c bs = access_in c.kind c.addr bs

-- the accesses of these calls, before those that came earlier
abbrev pub accesses : List Access → List Call → List ℕ → List Access
accesses past [] bs = past
accesses past (c ∷ cs) bs = accesses (access_of c (take c.len bs) ∷ past) cs (drop c.len bs)
