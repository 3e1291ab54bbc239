-- What a phase keeps of its reads: spans, the earliest first, and their bytes one behind the other.
use Rattle.std.specs.Prelude.{ℕ, ◌≡◌, ◌+◌, ◌-◌, ◌≤◌, ◌<◌, nat_le, Bool, cond, List, [], ◌∷◌, length, get_or, All}
use Rattle.live_mem.specs.Access.{spans}
use Rattle.live_mem.specs.declared.span.Span.{Span}

-- a span has this address
abbrev pub covers : Span → ℕ → Bool
covers s p = spans s.addr s.len p

-- where the bytes of a span are kept: in it, or among these
abbrev pub source : Span → List ℕ → List ℕ
source s kept = cond (nat_le s.len 16) s.short kept

-- the byte that is kept for an address of a span
abbrev pub byte_of : Span → List ℕ → ℕ → ℕ
byte_of s kept p = get_or (source s kept) (s.start + (p - s.addr)) 0

-- the byte at an address by what is kept: the latest span that has it says it; d where none has it
abbrev pub valued : List Span → List ℕ → ℕ → ℕ → ℕ
valued [] kept p d = d
valued (s ∷ ss) kept p d = valued ss kept p (cond (covers s p) (byte_of s kept p) d)

-- each span has its bytes
abbrev pub AreKept : List Span → List ℕ → Type 0
AreKept ss kept = All (λ s. s.start + s.len ≤ length (source s kept)) ss

-- no span has an address from low up to high
abbrev pub IsFree : List Span → List ℕ → ℕ → ℕ → Type 0
IsFree ss kept low high = (p d : ℕ) → low ≤ p → p < high → valued ss kept p d ≡ d
