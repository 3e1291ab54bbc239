-- The first writable bytes of a chain, as parts.
use Rattle.std.specs.Prelude.{ℕ, ◌-◌, ◌&&◌, nat_lt, cond, min, List, [], ◌∷◌}
use Rattle.ring_core.specs.declared.descriptor.Part.{Part}
use Rattle.ring_core.specs.State.{PlainChain}

-- the parts that have the first so many writable bytes, each at least one of them: readable parts, empty ones and what
-- lies behind are left out
abbrev pub first_writable : ℕ → List Part → List Part
first_writable most [] = []
first_writable most (p ∷ ps) =
    cond (p.writable && nat_lt 0 p.len && nat_lt 0 most)
    (record p { len = min p.len most } ∷ first_writable (most - p.len) ps)
    (first_writable most ps)

-- a chain with these parts alone
abbrev pub narrowed : ℕ → PlainChain → PlainChain
narrowed most c = record c { parts = first_writable most c.parts }
