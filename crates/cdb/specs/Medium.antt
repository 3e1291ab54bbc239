-- Which CDBs ask for the medium itself, whatever a volatile cache before it holds, SBC-3 §5.
use Rattle.std.specs.Prelude.{ℕ, ◌==◌, Bool, ◌&&◌, ◌||◌, List, [], ◌∷◌}
use Rattle.std.specs.List.{list_any}
use Rattle.cdb.specs.Fields.{byte, bit}

-- READ (10), WRITE (10), READ (16), COMPARE AND WRITE, WRITE (16), ORWRITE (16), READ (12) and WRITE (12): those with the bit
-- FUA, SBC-3 §5.11, §5.33, §5.13, §5.2, §5.35, §5.5, §5.12, §5.34
abbrev pub opcodes_with_fua : List ℕ
opcodes_with_fua = 0x28 ∷ 0x2a ∷ 0x88 ∷ 0x89 ∷ 0x8a ∷ 0x8b ∷ 0xa8 ∷ 0xaa ∷ []

-- WRITE AND VERIFY (10), (16) and (12), which verifies what the medium has, SBC-3 §5.37, §5.39, §5.38
abbrev pub opcodes_that_verify : List ℕ
opcodes_that_verify = 0x2e ∷ 0x8e ∷ 0xae ∷ []

-- FUA, bit 3 of byte 1, is 1; or what is written is verified
abbrev pub asks_medium : List ℕ → Bool
asks_medium cdb =
    (list_any (λ known. known == byte 0 cdb) opcodes_with_fua && bit 1 3 cdb)
    || list_any (λ known. known == byte 0 cdb) opcodes_that_verify
