-- The fields of a CDB, SPC-4 §4.3. A CDB is a list of bytes; byte 0 is its opcode.
use Rattle.std.specs.Prelude.{ℕ, ◌+◌, ◌-◌, ◌/◌, ◌%◌, ◌^◌, Bool, not, ◌==◌, nat_lt, List, slice_index, slice_range}
use Rattle.byteorder.specs.Endian.{big_number}

-- byte i
abbrev pub byte : ℕ → List ℕ → ℕ
byte i cdb = slice_index cdb i

-- the number in bits high to low of byte i
abbrev pub bits : ℕ → ℕ → ℕ → List ℕ → ℕ
bits i high low cdb = byte i cdb / 2 ^ low % 2 ^ (high + 1 - low)

-- whether bit k of byte i is 1
abbrev pub bit : ℕ → ℕ → List ℕ → Bool
bit i k cdb = bits i k k cdb == 1

-- the big endian number in bytes i to j
abbrev pub number : ℕ → ℕ → List ℕ → ℕ
number i j cdb = big_number (j + 1 - i) (slice_range cdb i (j + 1))

-- a test on a field: it isn't 0
abbrev pub is_set : ℕ → Bool
is_set n = not (n == 0)

-- a test on a field: it is over this limit
abbrev pub is_over : ℕ → ℕ → Bool
is_over limit n = nat_lt limit n
