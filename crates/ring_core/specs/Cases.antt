-- Small tables of descriptors, and what they hold.
use Rattle.std.specs.Prelude.{ℕ, ◌≡◌, ◌+◌, ◌^◌, ◌<◌, ◌≤◌, true, false, List, [], ◌∷◌, length}
use Rattle.ring_core.specs.Split.{in_table, SplitChain, SplitFails}
use Rattle.ring_core.specs.declared.layout.Features.{Features}
use Rattle.ring_core.specs.declared.fault.RingFault.TheVariants.{ChainTooLong}

-- a descriptor without flags, with its buffer in memory, is a chain of one readable part
abbrev pub OneAlone : Type 0
OneAlone =
    (features : Features) (m : List ℕ) (table size head addr len next : ℕ)
    → in_table m table head ≡ record { addr = addr; len = len; flags = 0; next_or_id = next }
    → addr + len ≤ length m
    → len ≤ 2 ^ 32
    → SplitChain features m table size head (record { addr = addr; len = len; writable = false } ∷ [])

-- three descriptors, linked 3, 5, 1: the first two have NEXT (1), the last WRITE (2)
abbrev pub ThreeLinked : Type 0
ThreeLinked =
    (features : Features) (m : List ℕ) (table size a b c i j k next : ℕ)
    → 5 < size
    → in_table m table 3 ≡ record { addr = a; len = i; flags = 1; next_or_id = 5 }
    → in_table m table 5 ≡ record { addr = b; len = j; flags = 1; next_or_id = 1 }
    → in_table m table 1 ≡ record { addr = c; len = k; flags = 2; next_or_id = next }
    → a + i ≤ length m
    → b + j ≤ length m
    → c + k ≤ length m
    → i + j + k ≤ 2 ^ 32
    → SplitChain features m table size 3
    (record { addr = a; len = i; writable = false }
    ∷ record { addr = b; len = j; writable = false }
    ∷ record { addr = c; len = k; writable = true }
    ∷ [])

-- an empty descriptor with NEXT (1) that names itself
abbrev pub NamesItself : Type 0
NamesItself =
    (features : Features) (m : List ℕ) (table size head addr : ℕ)
    → head < size
    → in_table m table head ≡ record { addr = addr; len = 0; flags = 1; next_or_id = head }
    → SplitFails features m table size head ChainTooLong
