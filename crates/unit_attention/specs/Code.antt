-- The additional sense codes of the unit attention conditions that a unit of this device reports.
use Rattle.std.specs.Prelude.{ℕ, Bool, List, [], ◌∷◌, ◌==◌, ◌&&◌, IsTrue}
use Rattle.std.specs.List.{list_any}
use Rattle.unit_attention.specs.declared.code.Code.{Code}

-- whether two codes are one: the same ASC and the same ASCQ
abbrev pub same_code : Code → Code → Bool
same_code a b = (a.asc == b.asc) && (a.ascq == b.ascq)

-- the code of an ASC and an ASCQ
abbrev pub code : ℕ → ℕ → Code
code asc ascq = record { asc = asc; ascq = ascq }

-- SPC-4 §4.5.6: power on, reset, or bus device reset occurred; bus device reset function occurred;
-- I_T nexus loss occurred; capacity data has changed
abbrev pub known_codes : List Code
known_codes = code 0x29 0x00 ∷ code 0x29 0x03 ∷ code 0x29 0x07 ∷ code 0x2a 0x09 ∷ []

-- the code is one of these
abbrev pub IsKnown : Code → Type 0
IsKnown c = IsTrue (list_any (same_code c) known_codes)
