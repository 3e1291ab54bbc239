-- The list of pending unit attention conditions of a unit, oldest first (SAM-5 §5.14).
use Rattle.std.specs.Prelude.{◌≡◌, Bool, false, List, [], ◌∷◌, ◌++◌, ⊤, if◌then◌else◌}
use Rattle.std.specs.List.{list_any}
use Rattle.unit_attention.specs.declared.code.Code.{Code}
use Rattle.unit_attention.specs.Code.{same_code, IsKnown}

-- whether the code is pending
abbrev pub is_pending : List Code → Code → Bool
is_pending pending c = list_any (λ p. same_code p c) pending

-- the list after a condition is established: its code at the end, unless it is pending
abbrev pub raised : List Code → Code → List Code
raised pending c = if is_pending pending c then pending else (pending ++ c ∷ [])

-- the list after its oldest is reported and cleared
abbrev pub without_first : List Code → List Code
without_first [] = []
without_first (c ∷ later) = later

-- each code is one of the known
abbrev pub AreKnown : List Code → Type 0
AreKnown [] = ⊤
AreKnown (c ∷ later) = IsKnown c × AreKnown later

-- no code stands there twice
abbrev pub AreDistinct : List Code → Type 0
AreDistinct [] = ⊤
AreDistinct (c ∷ later) = (is_pending later c ≡ false) × AreDistinct later

-- what every list of pending codes is
pub record IsPendingList (pending : List Code) : Type 0 where
  pub known : AreKnown pending
  pub distinct : AreDistinct pending
