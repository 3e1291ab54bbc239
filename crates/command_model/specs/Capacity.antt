-- The data of READ CAPACITY, by the capacity in blocks, of 512 bytes each.
use Rattle.std.specs.Prelude.{ℕ, ◌+◌, ◌-◌, Bool, nat_le, List, [], ◌∷◌, ◌++◌, min, replicate, Err, if◌then◌else◌}
use Rattle.std.specs.Int.{w32, w64, to_be_bytes}
use Rattle.sense.specs.Conditions.{lba_out_of_range}
use Rattle.command_model.specs.Data.{Answer}

-- the last logical block address
abbrev pub last_lba : ℕ → ℕ
last_lba blocks = blocks - 1

-- READ CAPACITY (10), SBC-3 §5.15.2: the last address, or ffffffffh where it doesn't fit, and the
-- block length
unfoldable pub capacity_10 : ℕ → List ℕ
capacity_10 blocks = to_be_bytes w32 (min (last_lba blocks) 0xffff_ffff) ++ to_be_bytes w32 512

-- READ CAPACITY (16), SBC-3 §5.16.2, of 32 bytes: the same; byte 13, the logical blocks per physical block exponent, and
-- byte 14 with LBPME and LBPRZ. The lowest aligned address is 0.
unfoldable pub capacity_16 : ℕ → ℕ → List ℕ
capacity_16 blocks exponent =
    to_be_bytes w64 (last_lba blocks) ++ to_be_bytes w32 512
    ++ (0x00 ∷ exponent ∷ 0xc0 ∷ []) ++ replicate 17 0x00

-- whether so many blocks from the address on lie below the capacity; none may stand at its end
abbrev pub is_in_range : ℕ → ℕ → ℕ → Bool
is_in_range blocks lba count = nat_le (lba + count) blocks

-- this answer, unless the range passes the last of so many blocks, SBC-3 §4.5
abbrev pub within : ℕ → ℕ → ℕ → Answer → Answer
within blocks lba count answer = if is_in_range blocks lba count then answer else Err lba_out_of_range
