-- What the wide profile takes of the commands that the narrow one has, where the narrow one refuses it.
use Rattle.std.specs.Prelude.{ℕ, ◌==◌, Bool, ◌||◌, ◌&&◌, List, [], ◌∷◌}
use Rattle.cdb.specs.Fields.{byte, bits, bit}
use Rattle.cdb.specs.Decoding.{any}

-- REQUEST SENSE with DESC; pages 86h and B1h of INQUIRY; WRITE SAME (16) with NDOB; GET LBA STATUS
abbrev pub is_gained : List ℕ → Bool
is_gained cdb =
    any
    ((byte 0 cdb == 0x03 && bit 1 0 cdb)
    ∷ (byte 0 cdb == 0x12 && (bit 1 0 cdb && (byte 2 cdb == 0x86 || byte 2 cdb == 0xb1)))
    ∷ (byte 0 cdb == 0x93 && bit 1 0 cdb)
    ∷ (byte 0 cdb == 0x9e && bits 1 4 0 cdb == 0x12)
    ∷ [])
