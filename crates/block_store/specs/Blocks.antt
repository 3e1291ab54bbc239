-- The blocks of a disk: a map from a block's number, its logical block address, to its 512 bytes
-- (SBC-3 §4.5).
use Rattle.std.specs.Prelude.{ℕ, ◌+◌, ◌-◌, ◌*◌, ◌/◌, zero, suc, Bool, ◌&&◌, nat_le, nat_lt, List, [], ◌++◌, length, take, drop, replicate, if◌then◌else◌}

-- what each block contains
abbrev pub Blocks : Type 0
Blocks = ℕ → List ℕ

-- how many blocks the bytes are
abbrev pub block_count : List ℕ → ℕ
block_count bytes = length bytes / 512

-- the bytes of block k of a run of bytes
abbrev pub nth_block : List ℕ → ℕ → List ℕ
nth_block bytes k = take 512 (drop (512 * k) bytes)

-- a block that was never written
unfoldable pub zero_block : List ℕ
zero_block = replicate 512 0

-- whether block b is one of the count blocks from first on
abbrev pub is_within : ℕ → ℕ → ℕ → Bool
is_within first count b = nat_le first b && nat_lt b (first + count)

-- the blocks with the bytes, 512 for each, over those from first on
abbrev pub overwritten : Blocks → ℕ → List ℕ → Blocks
overwritten old first bytes b =
    if is_within first (block_count bytes) b then nth_block bytes (b - first) else old b

-- the blocks with these bytes in each of the count blocks from first on
abbrev pub filled : Blocks → ℕ → ℕ → List ℕ → Blocks
filled old first count bytes b = if is_within first count b then bytes else old b

-- the blocks with zeros in each of the count blocks from first on
abbrev pub zeroed : Blocks → ℕ → ℕ → Blocks
zeroed old first count b = filled old first count zero_block b

-- the bytes of the count blocks from first on, end to end
abbrev pub run : Blocks → ℕ → ℕ → List ℕ
run blocks first zero = []
run blocks first (suc later) = blocks first ++ run blocks (first + 1) later
