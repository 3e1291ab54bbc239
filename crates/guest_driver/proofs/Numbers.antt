-- Numbers that were written as bytes, the lowest first, are read back.
use Rattle.std.proofs.Common.{◌≡◌, ℕ, zero, suc, ◌+◌, ◌*◌, ◌/◌, ◌%◌, ◌<◌, ◌^◌, List, ◌++◌, get_or, ◌∙◌, arith}
use Rattle.std.specs.Int.{w16, w32, w64, to_le_bytes}
use Rattle.std.proofs.lemmas.Nat.{from_le_bytes-to_le_bytes_2, from_le_bytes-to_le_bytes_4, from_le_bytes-to_le_bytes_8}

-- the number in the n bytes from index i on
abbrev pub number_from : ℕ → ℕ → List ℕ → ℕ
number_from i zero xs = 0
number_from i (suc n) xs = get_or xs i 0 + 256 * number_from (suc i) n xs

nested_2 : (a b : ℕ) → a + 256 * (b + 256 * 0) ≡ a + b * 256
nested_2 a b = omega arith

nested_4 : (a b c d : ℕ) → a + 256 * (b + 256 * (c + 256 * (d + 256 * 0))) ≡ a + b * 256 + c * 65536 + d * 16777216
nested_4 a b c d = omega arith

nested_8 : (a b c d e f g h : ℕ)
    → a + 256 * (b + 256 * (c + 256 * (d + 256 * (e + 256 * (f + 256 * (g + 256 * (h + 256 * 0)))))))
    ≡ a + b * 256 + c * 65536 + d * 16777216 + e * 4294967296 + f * 1099511627776 + g * 281474976710656 + h * 72057594037927936
nested_8 a b c d e f g h = omega arith

pub reads_2 : (n : ℕ) (behind : List ℕ) → n < 2 ^ 16 → number_from 0 2 (to_le_bytes w16 n ++ behind) ≡ n
reads_2 n behind fits = nested_2 (n % 256) (n / 256 % 256) ∙ from_le_bytes-to_le_bytes_2 n fits

pub reads_4 : (n : ℕ) (behind : List ℕ) → n < 2 ^ 32 → number_from 0 4 (to_le_bytes w32 n ++ behind) ≡ n
reads_4 n behind fits =
    nested_4 (n % 256) (n / 256 % 256) (n / 65536 % 256) (n / 16777216 % 256) ∙ from_le_bytes-to_le_bytes_4 n fits

pub reads_8 : (n : ℕ) (behind : List ℕ) → n < 2 ^ 64 → number_from 0 8 (to_le_bytes w64 n ++ behind) ≡ n
reads_8 n behind fits =
    nested_8 (n % 256) (n / 256 % 256) (n / 65536 % 256) (n / 16777216 % 256)
    (n / 4294967296 % 256) (n / 1099511627776 % 256) (n / 281474976710656 % 256) (n / 72057594037927936 % 256)
    ∙ from_le_bytes-to_le_bytes_8 n fits
