-- Writes into memory, as a list: what a device leaves there is such a list applied in order.
use Rattle.std.specs.Prelude.{ℕ, ◌≡◌, ◌+◌, ◌-◌, ◌&&◌, nat_lt, cond, List, [], ◌∷◌, ◌++◌, length, take, drop}
use Rattle.guest_mem.specs.Memory.{with_bytes}
use Rattle.guest_mem.specs.Stores.{Store, stores_at}
use Rattle.ring_core.specs.declared.descriptor.Part.{Part}

-- bytes that are written at an address
pub record Write : Type 0 where
  pub addr : ℕ
  pub bytes : List ℕ

-- memory once these were written, the first one first
abbrev pub all_written : List ℕ → List Write → List ℕ
all_written m [] = m
all_written m (w ∷ ws) = all_written (with_bytes m w.addr w.bytes) ws

-- the stores that make these writes, byte by byte
abbrev pub stores_of : List Write → List Store
stores_of [] = []
stores_of (w ∷ ws) = stores_at w.addr w.bytes ++ stores_of ws

-- bs over the writable parts in order, from their byte `at` on: one write for each part that gets some of them. Where
-- parts overlap the later write wins.
abbrev pub scatter_writes : List Part → ℕ → List ℕ → List Write
scatter_writes [] at bs = []
scatter_writes (p ∷ ps) at bs =
    cond p.writable
    (let further = scatter_writes ps (at - p.len) (drop (p.len - at) bs) in
    cond (nat_lt at p.len && nat_lt 0 (length bs))
    (record { addr = p.addr + at; bytes = take (p.len - at) bs } ∷ further)
    further)
    (scatter_writes ps at bs)

-- whatever the memory may be now, it is what it may have been before, with these writes
abbrev pub Wrote : (List ℕ → Type 0) → (List ℕ → Type 0) → List Write → Type 0
Wrote before after ws = (m : List ℕ) → after m → (m₀ : List ℕ) × before m₀ × (m ≡ all_written m₀ ws)
