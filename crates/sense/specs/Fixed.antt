-- Sense data in the fixed format, SPC-4 §4.5.3, of 18 bytes.
use Rattle.std.specs.Prelude.{ℕ, List, [], ◌∷◌, ◌++◌, replicate, Option, None, Some}
use Rattle.std.specs.Int.{w32, to_be_bytes}
use Rattle.sense.specs.declared.Sense.{Sense}

-- byte 0: the response code 70h of current information, and VALID in bit 7 where the information
-- field holds a value
abbrev pub response_code_of : Option ℕ → ℕ
response_code_of None = 0x70
response_code_of (Some information) = 0xf0

-- bytes 3 to 6: the information field, big endian
abbrev pub information_of : Option ℕ → List ℕ
information_of None = replicate 4 0
information_of (Some information) = to_be_bytes w32 information

-- the 18 bytes
abbrev pub fixed : Sense → List ℕ
fixed s =
    (response_code_of s.information ∷ [])
    -- byte 1 is obsolete, byte 2 has the sense key
    ++ (0 ∷ s.key ∷ [])
    ++ information_of s.information
    -- byte 7: 10 bytes follow
    ++ (0x0a ∷ [])
    -- bytes 8 to 11: no command-specific information
    ++ replicate 4 0
    -- bytes 12 and 13: the additional sense code and its qualifier
    ++ (s.asc ∷ s.ascq ∷ [])
    -- bytes 14 to 17: no field replaceable unit, no sense-key specific bytes
    ++ replicate 4 0
