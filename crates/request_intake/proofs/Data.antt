-- The data of a request, among its first bytes.
use Rattle.std.proofs.Common.{◌≡◌, ℕ, ◌+◌, List, take, drop, ◌∙◌, ap, arith}
use Rattle.std.proofs.lemmas.List.{drop-take, take-take}

-- those of the first bytes up to their end are those of all
pub data_in : (out : ℕ) (bytes : List ℕ) → take out (drop 51 (take (51 + out) bytes)) ≡ take out (drop 51 bytes)
data_in out bytes = ap (take out) (drop-take 51 out bytes) ∙ take-take out out (drop 51 bytes) (omega arith)
