-- Memory is a list of bytes. A read is a slice of it; a write replaces that slice and nothing else.
use Rattle.std.specs.Prelude.{ℕ, ◌+◌, ◌≤◌, List, ◌++◌, length, take, drop}

-- the n bytes at addr
abbrev pub bytes_at : List ℕ → ℕ → ℕ → List ℕ
bytes_at m addr n = take n (drop addr m)

-- m with bs in place of the bytes at addr
abbrev pub with_bytes : List ℕ → ℕ → List ℕ → List ℕ
with_bytes m addr bs = take addr m ++ (bs ++ drop (length bs) (drop addr m))

-- n bytes at addr lie in a memory of this size
abbrev pub LiesIn : ℕ → ℕ → ℕ → Type 0
LiesIn size addr n = addr + n ≤ size
