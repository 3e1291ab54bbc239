-- Sense data in the descriptor format, SPC-4 §4.5.2: 8 bytes, and the sense data descriptors behind them.
use Rattle.std.specs.Prelude.{ℕ, List, [], ◌∷◌, ◌++◌, length, replicate, Option, None, Some}
use Rattle.std.specs.Int.{w64, to_be_bytes}
use Rattle.sense.specs.declared.Sense.{Sense}

-- the information sense data descriptor, §4.5.2.2: descriptor type 00h, 10 bytes that follow, VALID in bit 7, a reserved
-- byte, and the information field, big endian
abbrev pub information_descriptor : ℕ → List ℕ
information_descriptor information = 0x00 ∷ 0x0a ∷ 0x80 ∷ 0x00 ∷ to_be_bytes w64 information

-- the sense data descriptors: one where the information field holds a value
abbrev pub sense_descriptors : Option ℕ → List ℕ
sense_descriptors None = []
sense_descriptors (Some information) = information_descriptor information

-- bytes 0 to 3: the response code 72h of current information, the sense key, the additional sense code, its qualifier;
-- bytes 4 to 6: no SDAT_OVFL, and reserved; byte 7: the number of bytes that follow
abbrev pub descriptor_header : Sense → ℕ → List ℕ
descriptor_header s following = (0x72 ∷ s.key ∷ s.asc ∷ s.ascq ∷ []) ++ replicate 3 0 ++ (following ∷ [])

-- the bytes
abbrev pub descriptor : Sense → List ℕ
descriptor s =
    descriptor_header s (length (sense_descriptors s.information))
    ++ sense_descriptors s.information
